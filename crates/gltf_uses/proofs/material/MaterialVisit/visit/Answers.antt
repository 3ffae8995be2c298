use Rattle.gltf_uses.proofs.material.MaterialVisit.visit.Goals as goal

pub returns : goal.returns
returns g c = rw (
  c.in_ok-member-4.ensures,
  c.in_ok-member-3.ensures,
  c.in_ok-member-2.ensures,
  c.in_ok-member.ensures,
) at c.member-5.ensures
