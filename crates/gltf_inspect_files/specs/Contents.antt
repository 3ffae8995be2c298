-- What a file holds besides its records, where it is accepted, stands behind what was found.
use Rattle.std.specs.Prelude.{◌≡◌, ◌++◌, ℕ, List, Option, Some, None, MatchOption}
use Rattle.gltf_json.specs.declared.root.Root.{Root}
use Rattle.gltf_inspect_files.specs.declared.lent.Lent.{Lent}
use Rattle.gltf_inspect_files.specs.Reports.{Found, lent_of}
use Rattle.gltf_inspect_files.specs.Within.{AreContents}

-- the whole is the report, and then what is found in items
pub record IsJoined (share : Option ℕ) (len : ℕ) (r : Root) (buffers : List (List ℕ))
    (report whole : Found) : Type 0 where
  pub contents : Found
  pub are : AreContents share len r buffers contents
  pub same : whole ≡ report ++ contents

abbrev pub IsWholeOf : Option ℕ → ℕ → Lent → Option Found → Type 0
IsWholeOf share len file None = lent_of file.imported ≡ None
IsWholeOf share len file (Some whole) =
    MatchOption (lent_of file.imported) ⊥
    (λ read. IsJoined share len read.0 read.1 file.report whole)
