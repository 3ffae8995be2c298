use Rattle.gltf_validation.proofs.material.MaterialValidate.validate.Goals as goal

pub returns : goal.returns
returns c = rw (
  c.in_ok-member-5.ensures,
  c.in_ok-member-4.ensures,
  c.in_ok-member-3.ensures,
  c.in_ok-member-2.ensures,
  c.in_ok-member.ensures,
) at c.member-6.ensures
