-- Packets of metadata, as C sees them (KHR_xmp_json_ld).
use Rattle.std.specs.Prelude.{◌≡◌, ◌<◌, ◌≤◌, ◌⊎◌, ℕ, codes, length, option_map, unwrap_or}
use Rattle.std.specs.Prelude.{Option, Some, None, Result, Ok, Err, ⊤}
use Rattle.serde_json.specs.Data.{Data}
use Rattle.serde_json.specs.View.{view}
use Rattle.serde_json.specs.declared.value.Value.{Value}
use Rattle.gltf_json.specs.declared.root.Root.{Root}
use Rattle.gltf_extension_records.specs.Others as kinds
use Rattle.gltf_extension_records.specs.declared.others.XmpPacket.{XmpPacket}
use Rattle.gltf_extensions.specs.Metadata.{packets_of}
use Rattle.gltf_c_scene.specs.declared.kind.Kind.TheVariants.{Root as RootKind}
use Rattle.gltf_c_look.specs.Json.{extension_of, extension_at}
use Rattle.gltf_c_extensions.specs.declared.reading.Missing.{Missing}
use Rattle.gltf_c_extensions.specs.declared.reading.Missing.TheVariants.{Absent, Bad, Memory}

-- the length of the list `packets` of the extension at the root; 0 where there is none
abbrev pub packet_count : Root → ℕ
packet_count r =
    unwrap_or (option_map (λ v. length (packets_of (view v)))
    (extension_at (codes "KHR_xmp_json_ld") RootKind 0 r)) 0

-- the packet that an extension names, out of n; there is none where the extension does not fit its
-- table, or names one that is not there
abbrev pub IsPacketOf : ℕ → Data → Result ℕ Missing → Type 0
IsPacketOf n d (Ok packet) =
    (x : XmpPacket) × kinds.xmp_packet.is d x × (packet ≡ x.packet) × (packet < n)
IsPacketOf n d (Err Absent) = ⊥
IsPacketOf n d (Err Bad) =
    (kinds.xmp_packet.fits d → ⊥) ⊎ ((x : XmpPacket) × kinds.xmp_packet.is d x × (n ≤ x.packet))
IsPacketOf n d (Err Memory) = ⊤

abbrev pub IsPacketIn : ℕ → Option Value → Result ℕ Missing → Type 0
IsPacketIn n None result = result ≡ Err Absent
IsPacketIn n (Some v) result = IsPacketOf n (view v) result

-- that of the record of a kind at an index
abbrev pub IsPacket : ℕ → ℕ → ℕ → Root → Result ℕ Missing → Type 0
IsPacket kind index part r =
    IsPacketIn (packet_count r) (extension_of (codes "KHR_xmp_json_ld") kind index part r)
