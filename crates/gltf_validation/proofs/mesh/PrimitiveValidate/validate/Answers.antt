use Rattle.gltf_validation.proofs.mesh.PrimitiveValidate.validate.Goals as goal

pub returns : goal.returns
returns c = rw (
  c.in_ok-member-3.ensures,
  c.in_ok-member-2.ensures,
  c.in_ok-member.ensures,
  c.in_ok-validate_unknown.ensures,
  c.deref.ensures.value,
  c.in_ok-validate_attributes.ensures,
)
    at c.member-4.ensures
