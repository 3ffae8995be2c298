-- What rules are, which of them a value breaks, and in which order they are reported.
use Rattle.std.specs.Prelude.{Bool, true, IsTrue, ⊤, if◌then◌else◌, List, [], ◌∷◌, ◌++◌}
use Rattle.std.specs.Coded.{×_prop, Unit-prop, Coded-set, coded_bool}
use Rattle.gltf_json_record.specs.Place.{Place}
use Rattle.gltf_validation.specs.declared.error.Error.{Error}

-- the rules of a value: none, a condition with the error where it is false, those of what stands
-- one step further in, or some and then others
pub data Rules : Type 0 where
  Nothing : Rules
  Condition : Bool → Error → Rules
  At : Place → Rules → Rules
  Both : Rules → Rules → Rules

infixr 30 ◌&◌
abbrev pub ◌&◌ : Rules → Rules → Rules
a & b = Both a b

-- a condition, where it stands, and the error where it is false
pub record Check : Type 0 where
  pub path : List Place
  pub holds : Bool
  pub error : Error

-- the list of all checks, in order
abbrev pub checks_at : List Place → Rules → List Check
checks_at path Nothing = []
checks_at path (Condition holds error) = record { path = path; holds = holds; error = error } ∷ []
checks_at path (At step rules) = checks_at (path ++ step ∷ []) rules
checks_at path (Both some others) = checks_at path some ++ checks_at path others

-- those whose condition is false, as path and error
abbrev pub broken : List Check → List (List Place × Error)
broken [] = []
broken (check ∷ checks) =
    if check.holds then broken checks else (check.path, check.error) ∷ broken checks

-- what a walk has reported once it has passed these rules too
abbrev pub report_after : List (List Place × Error) → List Place → Rules → List (List Place × Error)
report_after report path Nothing = report
report_after report path (Condition holds error) =
    if holds then report else report ++ (path, error) ∷ []
report_after report path (At step rules) = report_after report (path ++ step ∷ []) rules
report_after report path (Both some others) =
    report_after (report_after report path some) path others

-- every condition is true
abbrev pub Hold : Rules → Type 0
Hold Nothing = ⊤
Hold (Condition holds error) = IsTrue holds
Hold (At step rules) = Hold rules
Hold (Both some others) = Hold some × Hold others

-- that has one proof at most, so it can stand in a ghost field
pub Hold-prop : (rules : Rules) → IsProp (Hold rules)
Hold-prop Nothing = Unit-prop
Hold-prop (Condition holds error) = Coded-set coded_bool holds true
Hold-prop (At step rules) = Hold-prop rules
Hold-prop (Both some others) = ×_prop (Hold-prop some) (Hold-prop others)
