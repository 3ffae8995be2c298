-- What a file out of a reader is, where it is mended: the bytes that came decide.
use Rattle.std.specs.Prelude.{◌⊎◌, ℕ, List, Option}
use Rattle.gltf_glb.specs.declared.error.Error.{Error}
use Rattle.gltf_json.specs.declared.root.Root.{Root}
use Rattle.gltf.specs.Reader.{IsAllThatCounts, StopsReadingOr, UnlessFailure}
use Rattle.gltf_lenient.specs.Import.{IsValidMended, IsOnlyMended, IsNoValidMended}
use Rattle.gltf_lenient.specs.Import.{RefusesMendedText, RefusesMendedRules}
use Rattle.gltf_lenient.specs.declared.options.Options.{Options}

-- the bytes that came are a file of this mended document, whose rules hold, and of no other
pub record IsFileMended (options : Options) (left : Option (List ℕ)) (came : List ℕ) (r : Root)
    (taken : List (List ℕ)) (blob : Option (List ℕ)) : Type 0 where
  pub all : IsAllThatCounts left came
  pub valid : IsValidMended options came r taken blob
  pub only : IsOnlyMended options came r taken blob

-- the text or the mended records do not hold, or the rules do not without the names of the list
abbrev pub RefusesMendedTextOrRules : Options → List ℕ → Error → Type 0
RefusesMendedTextOrRules options came e =
    RefusesMendedText options.mends came e ⊎ RefusesMendedRules options came e

-- the reading stopped, or the container or one of these does not hold: then the bytes that came are
-- no such document
pub record RefusesFileMended (options : Options) (left : Option (List ℕ)) (came : List ℕ)
    (e : Error) : Type 0 where
  pub fails : StopsReadingOr (RefusesMendedTextOrRules options) left came e
  pub exact : UnlessFailure (IsNoValidMended options) came e
