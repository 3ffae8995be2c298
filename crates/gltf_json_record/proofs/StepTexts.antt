-- The texts of steps, one after another.
use Rattle.std.proofs.Common.{◌≡◌, ℕ, ◌+◌, ◌<◌, List, [], ◌∷◌, ◌++◌, length, take, get_or, map}
use Rattle.std.proofs.Common.{refl, sym, ap, ◌∙◌, append_assoc, append-nil}
use Rattle.std.proofs.lemmas.List.{take_more, map-append}
use Rattle.gltf_json_record.specs.Place.{Place, place_of, step_text, steps_text}
use Rattle.gltf_json_record.specs.declared.path.Step.{Step}

steps_text-append : (a b : List Place) → steps_text (a ++ b) ≡ steps_text a ++ steps_text b
steps_text-append [] b = refl
steps_text-append (s ∷ a) b =
    ap (λ t. step_text s ++ t) (steps_text-append a b)
    ∙ sym (append_assoc (step_text s) (steps_text a) (steps_text b))

-- the text of one more step follows that of the others
pub steps_text-one_more : (steps : List Step) (i : ℕ) (step : Step) → i < length steps
    → step ≡ get_or steps i step
    → steps_text (map place_of (take i steps)) ++ step_text (place_of step)
    ≡ steps_text (map place_of (take (i + 1) steps))
steps_text-one_more steps i step below at =
    rw (
      take_more steps i step below,
      ← at,
      map-append place_of (take i steps) (step ∷ []),
      steps_text-append (map place_of (take i steps)) (place_of step ∷ []),
      append-nil,
    ) refl
