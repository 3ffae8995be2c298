-- From the accessor that a getter gives to the index that the record has.
use Rattle.std.proofs.Common.{◌≡◌, ℕ, subst}
use Rattle.std.specs.Prelude.{Option, Some, None}
use Rattle.gltf_json.specs.declared.root.Root.{Root}
use Rattle.gltf_rules.specs.contracts.records.ValidRecords.TheImpl as valid
use Rattle.gltf_handles.specs.Accessors.{IsAccessor, accessor_handle}
use Rattle.gltf_handles.specs.Members.{Follows}
use Rattle.gltf_handles.specs.declared.accessor.Accessor.{Accessor}
use Rattle.gltf_data.specs.Answers.{Results}
use Rattle.gltf_read.specs.Reading.{Table, IsRead, ReadsMember}

pub of_member : {E : Type 0} (Are : Table E) (Gives : Results) (r : Root) (index : Option ℕ)
    (accessor : Accessor Root valid.ghosts) (result : Option E)
    → Follows (IsAccessor r) index (Some accessor)
    → Are (IsRead Gives (accessor_handle accessor).document (accessor_handle accessor).json)
    (accessor_handle accessor).json result
    → ReadsMember Are Gives r index result
of_member Are Gives r None accessor result is reads = absurd is
of_member Are Gives r (Some i) accessor result is reads =
    let a = (accessor_handle accessor).json in
    (a, is.json, subst (λ d. Are (IsRead Gives d a) a result) is.document reads)
