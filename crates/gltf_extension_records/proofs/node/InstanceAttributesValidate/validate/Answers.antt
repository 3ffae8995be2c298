use Rattle.gltf_extension_records.proofs.node.InstanceAttributesValidate.validate.Goals as goal

pub returns : goal.returns
returns c = rw (c.in_ok-member-2.ensures, c.in_ok-member.ensures) at c.member-3.ensures
