-- What checks are, what they find, and in which order it is reported.
use Rattle.std.specs.Prelude.{Bool, true, false, ◌≡◌, ◌⊎◌, if◌then◌else◌, List, [], ◌∷◌, ◌++◌, ℕ}
use Rattle.std.specs.Prelude.{◌+◌}
use Rattle.std.specs.Prelude.{Option, Some, None}
use Rattle.gltf_json_record.specs.Place.{Place, named, numbered}
use Rattle.gltf_findings.specs.declared.code.Code.{Code}

-- the checks of a value: none, a condition with the code of what is found where it is false, those
-- of what stands one step further in, or some and then others
pub data Checks : Type 0 where
  Nothing : Checks
  Condition : Bool → Code → Checks
  At : Place → Checks → Checks
  Both : Checks → Checks → Checks

infixr 30 ◌&◌
abbrev pub ◌&◌ : Checks → Checks → Checks
a & b = Both a b

-- what a walk has reported once it has passed these checks too
abbrev pub told_after : List (List Place × Code) → List Place → Checks → List (List Place × Code)
told_after told path Nothing = told
told_after told path (Condition holds code) = if holds then told else told ++ (path, code) ∷ []
told_after told path (At step checks) = told_after told (path ++ step ∷ []) checks
told_after told path (Both some others) = told_after (told_after told path some) path others

-- the findings, in order
abbrev pub findings_of : List Place → Checks → List (List Place × Code)
findings_of path Nothing = []
findings_of path (Condition holds code) = if holds then [] else (path, code) ∷ []
findings_of path (At step checks) = findings_of (path ++ step ∷ []) checks
findings_of path (Both some others) = findings_of path some ++ findings_of path others

-- a condition with this code stands at this path, and is false
abbrev pub Fails : Checks → List Place → Code → Type 0
Fails Nothing path code = true ≡ false
Fails (Condition holds its) path code = (holds ≡ false) × (path ≡ []) × (code ≡ its)
Fails (At step checks) path code =
    (rest : List Place) × (path ≡ step ∷ rest) × Fails checks rest code
Fails (Both some others) path code = Fails some path code ⊎ Fails others path code

-- the checks of what stands at a member
abbrev pub member : List ℕ → Checks → Checks
member name checks = At (named name) checks

abbrev pub optional_checks : {T : Type 0} → (T → Checks) → Option T → Checks
optional_checks checks None = Nothing
optional_checks checks (Some x) = checks x

-- the elements from index i on
abbrev pub elements_checks : {T : Type 0} → (T → Checks) → ℕ → List T → Checks
elements_checks checks i [] = Nothing
elements_checks checks i (x ∷ xs) = At (numbered i) (checks x) & elements_checks checks (i + 1) xs

abbrev pub list_checks : {T : Type 0} → (T → Checks) → List T → Checks
list_checks checks xs = elements_checks checks 0 xs
