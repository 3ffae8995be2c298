use Rattle.std.proofs.Common.{◌≡◌, ◌++◌, take}
use Rattle.std.specs.Prelude.{string_bytes, flat_map}
use Rattle.gltf_guide.specs.Materials.{line_of}
use Rattle.gltf_guide.proofs.documents.write_textures.Given as goal

-- the lines of the uses so far are written
abbrev pub invariant-loop-used : goal.invariant-loop-used
invariant-loop-used l =
    string_bytes l.text
    ≡ string_bytes l.initial.text ++ flat_map line_of (take l.used-index l.used-items)
