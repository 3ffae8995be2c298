-- What a file out of a reader is, where the caller handles the extensions of a list: the bytes that
-- came decide.
use Rattle.std.specs.Prelude.{◌⊎◌, ℕ, List, Option}
use Rattle.gltf_glb.specs.declared.error.Error.{Error}
use Rattle.gltf_json.specs.declared.root.Root.{Root}
use Rattle.gltf.specs.Import.{RefusesText}
use Rattle.gltf.specs.Reader.{IsAllThatCounts, StopsReadingOr, UnlessFailure}
use Rattle.gltf_options.specs.Import.{IsValidBesides, IsOnlyBesides, IsNoValidBesides}
use Rattle.gltf_options.specs.Import.{RefusesRulesBesides}

-- the bytes that came are a file of this document, whose rules hold, and of no other
pub record IsFileBesides (also : List (List ℕ)) (left : Option (List ℕ)) (came : List ℕ)
    (r : Root) (taken : List (List ℕ)) (blob : Option (List ℕ)) : Type 0 where
  pub all : IsAllThatCounts left came
  pub valid : IsValidBesides also came r taken blob
  pub only : IsOnlyBesides also came r taken blob

-- the text or the records in it do not hold, or the rules do not without the names of the list
abbrev pub RefusesTextOrRulesBesides : List (List ℕ) → List ℕ → Error → Type 0
RefusesTextOrRulesBesides also came e = RefusesText came e ⊎ RefusesRulesBesides also came e

-- the reading stopped, or the container or one of these does not hold: then the bytes that came are
-- no such document
pub record RefusesFileBesides (also : List (List ℕ)) (left : Option (List ℕ)) (came : List ℕ)
    (e : Error) : Type 0 where
  pub fails : StopsReadingOr (RefusesTextOrRulesBesides also) left came e
  pub exact : UnlessFailure (IsNoValidBesides also) came e
