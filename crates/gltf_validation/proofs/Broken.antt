-- What a walk reports is what is broken, and nothing is broken exactly where every condition is
-- true.
use Rattle.std.proofs.Common.{◌≡◌, true, false, if◌then◌else◌, List, [], ◌∷◌, ◌++◌, refl, sym, ◌∙◌}
use Rattle.std.proofs.Common.{ap, append_assoc, arith}
use Rattle.std.proofs.lemmas.Grind.{common_steps}
use Rattle.gltf_json_record.specs.Place.{Place}
use Rattle.gltf_validation.specs.declared.error.Error.{Error}
use Rattle.gltf_validation.specs.Rules.{Rules, Nothing, Condition, At, Both, Check, checks_at}
use Rattle.gltf_validation.specs.Rules.{broken, report_after, Hold}

pub broken-append : (a b : List Check) → broken (a ++ b) ≡ broken a ++ broken b
broken-append [] b = refl
broken-append (c ∷ cs) b =
    let step : broken (cs ++ b) ≡ broken cs ++ broken b = broken-append cs b in
    elim (c.holds) as (λ h. (if h then broken (cs ++ b) else (c.path, c.error) ∷ broken (cs ++ b))
    ≡ (if h then broken cs else (c.path, c.error) ∷ broken cs) ++ broken b)
    [ true ↦ step | false ↦ ap (λ xs. (c.path, c.error) ∷ xs) step ]

-- a walk adds what is broken after what it had
pub report_after-broken : (report : List (List Place × Error)) (path : List Place) (t : Rules)
    → report_after report path t ≡ report ++ broken (checks_at path t)
report_after-broken report path Nothing = grind (arith, common_steps)
report_after-broken report path (Condition true e) = grind (arith, common_steps)
report_after-broken report path (Condition false e) = refl
report_after-broken report path (At s t) = report_after-broken report (path ++ s ∷ []) t
report_after-broken report path (Both t u) =
    rw (
      report_after-broken (report_after report path t) path u,
      report_after-broken report path t,
      broken-append (checks_at path t) (checks_at path u),
    )
    (append_assoc report (broken (checks_at path t)) (broken (checks_at path u)))

nil_left : {A : Type 0} (xs ys : List A) → xs ++ ys ≡ [] → xs ≡ []
nil_left [] ys e = refl
nil_left (x ∷ xs) ys e = cc

nil_right : {A : Type 0} (xs ys : List A) → xs ++ ys ≡ [] → ys ≡ []
nil_right [] ys e = e
nil_right (x ∷ xs) ys e = cc

-- where nothing is broken every condition is true
pub hold-where_none : (path : List Place) (t : Rules) → broken (checks_at path t) ≡ [] → Hold t
hold-where_none path Nothing e = tt
hold-where_none path (Condition true x) e = refl
hold-where_none path (Condition false x) e = cc
hold-where_none path (At s t) e = hold-where_none (path ++ s ∷ []) t e
hold-where_none path (Both t u) e =
    let both : broken (checks_at path t) ++ broken (checks_at path u) ≡ [] =
    sym (broken-append (checks_at path t) (checks_at path u)) ∙ e in (
      hold-where_none path t (nil_left (broken (checks_at path t))
          (broken (checks_at path u)) both),
      hold-where_none path u (nil_right (broken (checks_at path t))
          (broken (checks_at path u)) both),
    )

-- and the other way round
pub none-where_hold : (path : List Place) (t : Rules) → Hold t → broken (checks_at path t) ≡ []
none-where_hold path Nothing h = refl
none-where_hold path (Condition true x) h = refl
none-where_hold path (Condition false x) h = cc
none-where_hold path (At s t) h = none-where_hold (path ++ s ∷ []) t h
none-where_hold path (Both t u) h =
    rw (
      broken-append (checks_at path t) (checks_at path u),
      none-where_hold path t h.0,
      none-where_hold path u h.1,
    ) refl
