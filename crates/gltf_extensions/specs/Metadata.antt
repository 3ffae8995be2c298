-- Packets of metadata, and the pointers of animations.
use Rattle.std.specs.Prelude.{◌≡◌, ◌≤◌, codes, List, [], ◌∷◌, length, slice_get, Option, Some, None}
use Rattle.std.specs.Prelude.{MatchResult, option_map, option_and_then, unwrap_or, ⊤}
use Rattle.std.specs.declared.result.Result.{Result}
use Rattle.serde_json.specs.Data.{Data}
use Rattle.serde_json.specs.Find.{as_array}
use Rattle.serde_json.specs.declared.value.Value.{Value}
use Rattle.gltf_json_record.specs.Kind.{Kind}
use Rattle.gltf_json_record.specs.Member.{member_at}
use Rattle.gltf_json_record.specs.Place.{named}
use Rattle.gltf_handles.specs.Members.{Follows}
use Rattle.gltf_numbers.specs.Numbers.{values_of}
use Rattle.gltf_validation.specs.declared.error.Error.TheVariants.{IndexOutOfBounds}
use Rattle.gltf_extension_records.specs.Others.{animation_pointer, xmp_packet}
use Rattle.gltf_extension_records.specs.declared.others.AnimationPointer.{AnimationPointer}
use Rattle.gltf_extension_records.specs.declared.others.XmpPacket.{XmpPacket}
use Rattle.gltf_extensions.specs.declared.fault.ExtensionFault.{ExtensionFault}
use Rattle.gltf_extensions.specs.declared.fault.ExtensionFault.TheVariants.{Record, Rules, Memory}

-- the extension KHR_animation_pointer of a channel's target
abbrev pub pointer_value : Data → Option Data
pointer_value target =
    option_and_then (member_at (codes "KHR_animation_pointer"))
    (member_at (codes "extensions") target)

-- the fault of a value of a kind without rules
abbrev pub IsFaultOf : {T : Type 0} → Kind T → Data → ExtensionFault → Type 0
IsFaultOf K d (Record path fault) = K.fault d path fault
IsFaultOf K d (Rules faults) = ⊥
IsFaultOf K d Memory = ⊤

-- the pointer of a target, where it has one
abbrev pub IsPointer : Data → Option (Result AnimationPointer ExtensionFault) → Type 0
IsPointer target result =
    Follows (λ d found. MatchResult found (animation_pointer.is d) (IsFaultOf animation_pointer d))
    (pointer_value target) result

-- the member `packets` of the root's extension KHR_xmp_json_ld
abbrev pub packets_of : Data → List Data
packets_of d =
    unwrap_or
    (option_and_then (λ packets. option_map values_of (as_array packets))
    (member_at (codes "packets") d))
    []

-- the packet whose index the extension of an object has
abbrev pub IsPacket : List Value → Data → Value → Type 0
IsPacket packets d packet =
    (x : XmpPacket) × xmp_packet.is d x × (slice_get packets x.packet ≡ Some packet)

-- why there is none: the extension is not of its form, or its index is not below their number
abbrev pub IsNoPacket : List Value → Data → ExtensionFault → Type 0
IsNoPacket packets d (Record path fault) = xmp_packet.fault d path fault
IsNoPacket packets d (Rules faults) =
    (x : XmpPacket) × xmp_packet.is d x × (length packets ≤ x.packet)
    × (faults.items ≡ (named (codes "packet") ∷ [], IndexOutOfBounds) ∷ [])
IsNoPacket packets d Memory = ⊤
