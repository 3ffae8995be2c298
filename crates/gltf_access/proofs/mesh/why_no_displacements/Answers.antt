use Rattle.std.proofs.Common.{refl}
use Rattle.gltf_scene.specs.Meshes.{morph_target_handle}
use Rattle.gltf_access.specs.Why.{displacement}
use Rattle.gltf_access.proofs.Members.{explained_displacement}
use Rattle.gltf_access.proofs.mesh.why_no_displacements.Goals as goal

pub returns-clause-exact : goal.returns-clause-exact
returns-clause-exact g c =
    let target = morph_target_handle c.args.target.now in
    explained_displacement _ (λ b o. goal.F-post g c.args.get_buffer_data.now b o)
    target.document (displacement c.args.semantic.now target.json) _ refl
    c.displacement_reason.ensures
