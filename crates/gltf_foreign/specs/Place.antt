-- Where members stand in a document.
use Rattle.std.specs.Prelude.{ℕ, List, [], ◌∷◌, ◌++◌, map, string_bytes, Bool, true, false}
use Rattle.std.specs.Prelude.{bytes_eq}
use Rattle.gltf_foreign.specs.declared.place.Step.{Step}
use Rattle.gltf_foreign.specs.declared.place.Step.TheVariants as step
use Rattle.gltf_foreign.specs.declared.place.At.{At}
use Rattle.gltf_foreign.specs.declared.place.At.TheVariants as at
use Rattle.gltf_foreign.specs.declared.place.Place.{Place}

-- one step: to the member of this name, or to the element at this index
pub data Part : Type 0 where
  named : List ℕ → Part
  numbered : ℕ → Part

-- a step to the member of this name
abbrev pub is_name : List ℕ → Part → Bool
is_name name (named own) = bytes_eq own name
is_name name (numbered i) = false

-- a step to an element
abbrev pub is_index : Part → Bool
is_index (named own) = false
is_index (numbered i) = true

abbrev pub step_view : Step → Part
step_view (step.Name name) = named (string_bytes name)
step_view (step.Index index) = numbered index

abbrev pub at_view : At → Part
at_view (at.Name name) = named name.now
at_view (at.Index index) = numbered index

abbrev pub steps_view : List Step → List Part
steps_view steps = map step_view steps

abbrev pub place_view : Place → List Part
place_view p = steps_view p.steps.items

abbrev pub places_view : List Place → List (List Part)
places_view ps = map place_view ps

-- places under one more step, which is the last, since the first is that to the member
abbrev pub under : Part → List (List Part) → List (List Part)
under s ps = map (λ p. p ++ s ∷ []) ps
