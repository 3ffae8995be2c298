-- From the accessor that a getter gives to the index that the record has, and from the meanings of
-- its codes to the codes.
use Rattle.std.proofs.Common.{◌≡◌, ℕ, Bool, subst}
use Rattle.std.specs.Prelude.{Option, Some, None}
use Rattle.gltf_json.specs.declared.root.Root.{Root}
use Rattle.gltf_json_record.specs.declared.validation.Checked.{Checked}
use Rattle.gltf_json_record.specs.declared.validation.Checked.TheVariants.{Invalid, Valid}
use Rattle.gltf_rules.specs.contracts.records.ValidRecords.TheImpl as valid
use Rattle.gltf_handles.specs.Accessors.{IsAccessor, accessor_handle}
use Rattle.gltf_handles.specs.Members.{Follows}
use Rattle.gltf_handles.specs.Sizes.{Means}
use Rattle.gltf_handles.specs.declared.accessor.Accessor.{Accessor}
use Rattle.gltf_handles.specs.declared.accessor.DataType.{DataType}
use Rattle.gltf_handles.specs.declared.accessor.Dimensions.{Dimensions}
use Rattle.gltf_data.specs.Answers.{Results}
use Rattle.gltf_read.specs.Reading.{Table, IsRead, ReadsMember, meant}
use Rattle.gltf_quantization.specs.Accepted.{accepts}
use Rattle.gltf_quantization.specs.Quantized.{accepted_as}
use Rattle.gltf_quantization.specs.declared.accepted.QuantizedAttribute.{QuantizedAttribute}

pub of_member : {E : Type 0} (Are : Table E) (Gives : Results) (r : Root) (index : Option ℕ)
    (accessor : Accessor Root valid.ghosts) (result : Option E)
    → Follows (IsAccessor r) index (Some accessor)
    → Are (IsRead Gives (accessor_handle accessor).document (accessor_handle accessor).json)
    (accessor_handle accessor).json result
    → ReadsMember Are Gives r index result
of_member Are Gives r None accessor result is reads = absurd is
of_member Are Gives r (Some i) accessor result is reads =
    let a = (accessor_handle accessor).json in
    (a, is.json, subst (λ d. Are (IsRead Gives d a) a result) is.document reads)

-- a type is accepted by what its codes mean
pub by_meaning : {C K : Type 0} (dimensions_meant : C → Dimensions) (type_meant : K → DataType)
    (attribute : QuantizedAttribute) (code : Checked C) (component : Checked K)
    (dimensions : Dimensions) (data_type : DataType) (given stored : Bool)
    → Means dimensions_meant code dimensions
    → Means type_meant component data_type
    → given ≡ stored
    → accepts attribute dimensions data_type given
    ≡ accepted_as attribute (meant dimensions_meant code) (meant type_meant component) stored
by_meaning dm tm attribute Invalid component d t n m p q e = absurd p
by_meaning dm tm attribute (Valid c) Invalid d t n m p q e = absurd q
by_meaning dm tm attribute (Valid c) (Valid k) d t n m p q e = cc
