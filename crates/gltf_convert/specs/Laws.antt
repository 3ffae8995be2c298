-- Laws over the definitions.
use Rattle.std.specs.Prelude.{ℕ, List, ◌++◌, map, codes, Bool}
use Rattle.gltf_buffers.specs.Names.{Names}
use Rattle.gltf_required.specs.declared.required.Required.{Required}
use Rattle.gltf_bundle.specs.declared.options.Keep.{Keep}
use Rattle.gltf_split.specs.Laws.{AreApart}
use Rattle.gltf_split.specs.Splits.{IsSplit}
use Rattle.gltf_split.specs.declared.splitting.Pieces.{Pieces}
use Rattle.gltf_convert.specs.Files.{Written, files_of}

abbrev pub paths_of : List Written → List (List ℕ)
paths_of files = map (λ file. file.0) files

-- no two files of a set have the same path, wherever its text goes under this name
abbrev pub HasPathsApart : Type 0
HasPathsApart =
    (required : Required) (names : Names) (path stem : List ℕ) (keep : Keep) (drop : Bool)
    (set : Pieces) → IsSplit required names path stem keep drop set
    → (base : List ℕ) → AreApart (paths_of (files_of base (base ++ (stem ++ codes ".gltf")) set))
