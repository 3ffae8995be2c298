use Rattle.std.proofs.Common.{refl}
use Rattle.gltf_read.specs.Kinds.{indices}
use Rattle.gltf_access.proofs.Members.{of_member, of_none, explained_indices}
use Rattle.gltf_access.proofs.mesh.why_no_indices.Goals as goal

pub returns-in-Some-clause-why : goal.returns-in-Some-clause-why
returns-in-Some-clause-why g c =
    of_member indices (λ b o. goal.F-post g c.args.get_buffer_data.now b o) _ _
    c.in-Some.accessor _ c.in-Some.ensures c.indices-in-Some.ensures

pub returns-in-Some-clause-exact : goal.returns-in-Some-clause-exact
returns-in-Some-clause-exact g c =
    explained_indices (λ b o. goal.F-post g c.args.get_buffer_data.now b o) _ _ _
    (of_member indices (λ b o. goal.F-post g c.args.get_buffer_data.now b o) _ _
    c.in-Some.accessor _ c.in-Some.ensures c.indices-in-Some.ensures)

pub returns-in-None-clause-why : goal.returns-in-None-clause-why
returns-in-None-clause-why g c =
    of_none indices (λ b o. goal.F-post g c.args.get_buffer_data.now b o) _ _ _
    c.in-None.ensures refl

pub returns-in-None-clause-exact : goal.returns-in-None-clause-exact
returns-in-None-clause-exact g c =
    explained_indices (λ b o. goal.F-post g c.args.get_buffer_data.now b o) _ _ _
    (of_none indices (λ b o. goal.F-post g c.args.get_buffer_data.now b o) _ _ _
    c.in-None.ensures refl)
