-- Which bytes are written where.
use Rattle.std.specs.Prelude.{ℕ, List, [], ◌∷◌, ◌++◌, map, string_bytes}
use Rattle.std.specs.Prelude.{Option, Some, None}
use Rattle.gltf_detach.specs.declared.part.Part.{Part}
use Rattle.gltf_put.specs.declared.output.Output.{Output}
use Rattle.gltf_split.specs.declared.splitting.Pieces.{Pieces}

-- a file that is written: its path and its bytes
abbrev pub Written : Type 0
Written = List ℕ × List ℕ

abbrev pub shown : Output → Written
shown o = (string_bytes o.path, o.bytes.now)

-- a file beside a text, in its folder
abbrev pub file_of : List ℕ → Part → Written
file_of base p = (base ++ string_bytes p.name, p.bytes.items)

abbrev pub beside : List ℕ → List Part → List Written
beside base ps = map (file_of base) ps

-- those of these that are there
abbrev pub beside_some : List ℕ → List (Option Part) → List Written
beside_some base [] = []
beside_some base (None ∷ ps) = beside_some base ps
beside_some base (Some p ∷ ps) = file_of base p ∷ beside_some base ps

-- the files of buffers, then those of images, and the text last
abbrev pub files_of : List ℕ → List ℕ → Pieces → List Written
files_of base to set =
    beside base set.buffers.items
    ++ (beside_some base set.images.items ++ ((to, string_bytes set.json) ∷ []))
