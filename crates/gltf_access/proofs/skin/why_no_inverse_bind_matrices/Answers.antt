use Rattle.std.proofs.Common.{refl}
use Rattle.gltf_read.specs.Kinds.{matrices}
use Rattle.gltf_access.proofs.Explained.{matrix_size}
use Rattle.gltf_access.proofs.Members.{of_member, of_none, explained_items}
use Rattle.gltf_access.proofs.skin.why_no_inverse_bind_matrices.Goals as goal

pub returns-in-Some-clause-why : goal.returns-in-Some-clause-why
returns-in-Some-clause-why g c =
    of_member matrices (λ b o. goal.F-post g c.args.get_buffer_data.now b o) _ _
    c.in-Some.accessor _ c.in-Some.ensures c.matrices.ensures

pub returns-in-Some-clause-exact : goal.returns-in-Some-clause-exact
returns-in-Some-clause-exact g c =
    explained_items _ 64 matrices (λ b o. goal.F-post g c.args.get_buffer_data.now b o) _ _ _
    refl matrix_size
    (of_member matrices (λ b o. goal.F-post g c.args.get_buffer_data.now b o) _ _
    c.in-Some.accessor _ c.in-Some.ensures c.matrices.ensures)

pub returns-in-None-clause-why : goal.returns-in-None-clause-why
returns-in-None-clause-why g c =
    of_none matrices (λ b o. goal.F-post g c.args.get_buffer_data.now b o) _ _ _
    c.in-None.ensures refl

pub returns-in-None-clause-exact : goal.returns-in-None-clause-exact
returns-in-None-clause-exact g c =
    explained_items _ 64 matrices (λ b o. goal.F-post g c.args.get_buffer_data.now b o) _ _ _
    refl matrix_size
    (of_none matrices (λ b o. goal.F-post g c.args.get_buffer_data.now b o) _ _ _
    c.in-None.ensures refl)
