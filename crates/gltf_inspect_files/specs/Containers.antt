-- The code of what is wrong with a container, its text or a record in it (glTF 2.0, sections 4.4,
-- 2.7 and 5).
use Rattle.std.specs.Prelude.{ℕ, nat_lt, nat_eq, if◌then◌else◌, List, drop, codes, length}
use Rattle.std.specs.List.{starts_with}
use Rattle.gltf_glb.specs.declared.binary.Error as container
use Rattle.gltf_glb.specs.declared.binary.Error.TheVariants as binary
use Rattle.gltf_glb.specs.declared.binary.ChunkType.TheVariants.{Json, Bin}
use Rattle.gltf_findings.specs.declared.code.Code.{Code}
use Rattle.gltf_findings.specs.declared.code.Code.TheVariants as code

-- the header has 12 bytes; behind them the bytes end before or in the header of a chunk
abbrev pub end_code : ℕ → Code
end_code len =
    if nat_lt len 12 then code.GlbUnexpectedEndOfHeader else code.GlbUnexpectedEndOfChunkHeader

-- no container is shorter than its header
abbrev pub length_code : ℕ → Code
length_code declared = if nat_lt declared 12 then code.GlbLengthTooSmall else code.GlbLengthMismatch

-- the type of the first chunk stands at byte 16; where it is JSON, a later chunk is meant
abbrev pub unknown_code : List ℕ → Code
unknown_code bytes =
    if starts_with nat_eq (drop 16 bytes) (codes "JSON") then code.GlbChunkTooBig
    else code.GlbUnexpectedFirstChunk

abbrev pub container_code : List ℕ → container.Error → Code
container_code bytes (binary.Io cause) = end_code (length bytes)
container_code bytes (binary.Version version) = code.GlbInvalidVersion
container_code bytes (binary.Magic first) = code.InvalidJson
container_code bytes (binary.Length declared read) = length_code declared
container_code bytes (binary.ChunkLength type declared read) = code.GlbChunkTooBig
container_code bytes (binary.ChunkType Json) = code.GlbDuplicateChunk
container_code bytes (binary.ChunkType Bin) = code.GlbUnexpectedFirstChunk
container_code bytes (binary.UnknownChunkType type) = unknown_code bytes
