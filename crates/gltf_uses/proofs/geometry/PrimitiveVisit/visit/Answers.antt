use Rattle.gltf_uses.proofs.geometry.PrimitiveVisit.visit.Goals as goal

pub returns : goal.returns
returns g c = rw (
  c.in_ok-member-3.ensures,
  c.in_ok-member-2.ensures,
  c.in_ok-member.ensures,
  c.in_ok-visit_attributes.ensures,
) at c.member-4.ensures
