use Rattle.std.proofs.Common.{refl}
use Rattle.gltf_access.proofs.Members.{explained_attribute}
use Rattle.gltf_access.proofs.mesh.why_not_read.Goals as goal

pub returns-clause-exact : goal.returns-clause-exact
returns-clause-exact g c =
    explained_attribute _ _ c.args.semantic.now
    (λ b o. goal.F-post g c.args.get_buffer_data.now b o) _ _ _ refl refl
    c.attribute_reason.ensures
