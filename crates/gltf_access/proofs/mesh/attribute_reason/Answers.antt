use Rattle.std.proofs.Common.{refl}
use Rattle.gltf_read.specs.Kinds.{attribute_kinds}
use Rattle.gltf_access.proofs.Members.{of_attribute, of_no_attribute}
use Rattle.gltf_access.proofs.mesh.attribute_reason.Goals as goal

pub returns-in-Some : goal.returns-in-Some
returns-in-Some g c =
    of_attribute (attribute_kinds c.args.semantic.now)
    (λ b o. goal.F-post g c.args.get_buffer_data.now b o) _ _ c.in-Some.accessor _
    c.in-Some.ensures c.attribute.ensures

pub returns-in-None : goal.returns-in-None
returns-in-None g c =
    of_no_attribute (attribute_kinds c.args.semantic.now)
    (λ b o. goal.F-post g c.args.get_buffer_data.now b o) _ _ _ c.in-None.ensures refl
