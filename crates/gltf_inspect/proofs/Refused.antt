-- The broken rules are what the rules, as checks, find; and where no error is found all rules hold.
use Rattle.std.proofs.Common.{◌≡◌, ℕ, ◌+◌, true, false, List, [], ◌∷◌, ◌++◌, map, refl, sym, ◌∙◌}
use Rattle.std.proofs.Common.{ap, arith}
use Rattle.std.specs.Prelude.{Bool, suc, if◌then◌else◌, ◌==◌, codes, bytes_eq}
use Rattle.gltf_json_record.specs.Place.{Place, named, numbered, keyed}
use Rattle.gltf_validation.specs.declared.error.Error.{Error}
use Rattle.gltf_validation.specs.declared.error.Error.TheVariants.{IndexOutOfBounds, Invalid}
use Rattle.gltf_validation.specs.declared.error.Error.TheVariants.{Missing, Oversize, Unsupported}
use Rattle.gltf_validation.specs.Rules as rules
use Rattle.gltf_findings.specs.declared.code.Code.{Code}
use Rattle.gltf_findings.specs.declared.code.Code.TheVariants as code
use Rattle.gltf_findings.specs.declared.code.Severity.TheVariants as grave
use Rattle.gltf_findings.specs.Codes.{severity, severity_number}
use Rattle.gltf_findings.specs.Checks.{findings_of}
use Rattle.gltf_findings.specs.Reports.{count_of}
use Rattle.gltf_inspect.specs.Refusals.{refusals, refusal, refusal_code, last_of}

broken-append : (a b : List rules.Check) → rules.broken (a ++ b) ≡ rules.broken a ++ rules.broken b
broken-append [] b = refl
broken-append (c ∷ cs) b =
    let step : rules.broken (cs ++ b) ≡ rules.broken cs ++ rules.broken b = broken-append cs b in
    elim (c.holds) as (λ h. (if h then rules.broken (cs ++ b) else (c.path, c.error) ∷ rules.broken
    (cs ++ b))
    ≡ (if h then rules.broken cs else (c.path, c.error) ∷ rules.broken cs) ++ rules.broken b)
    [ true ↦ step | false ↦ ap (λ xs. (c.path, c.error) ∷ xs) step ]

last-push : (d s : Place) (path : List Place) → last_of d (path ++ s ∷ []) ≡ s
last-push d s [] = refl
last-push d s (x ∷ xs) = last-push x s xs

map-both : (xs ys : List (List Place × Error))
    → map refusal (xs ++ ys) ≡ map refusal xs ++ map refusal ys
map-both [] ys = refl
map-both (x ∷ xs) ys = ap (λ zs. refusal x ∷ zs) (map-both xs ys)

pub refused : (path : List Place) (t : rules.Rules)
    → map refusal (rules.broken (rules.checks_at path t))
    ≡ findings_of path (refusals (last_of (numbered 0) path) t)
refused path rules.Nothing = refl
refused path (rules.Condition true e) = refl
refused path (rules.Condition false e) = refl
refused path (rules.At s t) =
    refused (path ++ s ∷ []) t
    ∙ ap (λ step. findings_of (path ++ s ∷ []) (refusals step t)) (last-push (numbered 0) s path)
refused path (rules.Both t u) =
    ap (map refusal) (broken-append (rules.checks_at path t) (rules.checks_at path u))
    ∙ map-both (rules.broken (rules.checks_at path t)) (rules.broken (rules.checks_at path u))
    ∙ rw (refused path t, refused path u) refl

nothing-plus : (k : ℕ) → 0 + k ≡ k
nothing-plus k = omega arith

one-more : (b : Bool) (xs ys : List (List Place × Code))
    → count_of grave.Error (xs ++ ys) ≡ count_of grave.Error xs + count_of grave.Error ys
    → (if b then suc (count_of grave.Error (xs ++ ys)) else count_of grave.Error (xs ++ ys))
    ≡ (if b then suc (count_of grave.Error xs) else count_of grave.Error xs)
    + count_of grave.Error ys
one-more true xs ys e = rw e (let m : ℕ = count_of grave.Error xs in omega arith)
one-more false xs ys e = e

count-append : (xs ys : List (List Place × Code))
    → count_of grave.Error (xs ++ ys) ≡ count_of grave.Error xs + count_of grave.Error ys
count-append [] ys = sym (nothing-plus (count_of grave.Error ys))
count-append (x ∷ xs) ys = one-more (severity_number (severity x.1) == 0) xs ys (count-append xs ys)

-- every broken rule is an error
grave-choice : (b c : Bool) → severity (if b then code.OneOfMismatch
    else if c then code.UnsatisfiedDependency else code.UndefinedProperty) ≡ grave.Error
grave-choice true c = refl
grave-choice false true = refl
grave-choice false false = refl

grave-refusal : (step : Place) (e : Error) → severity (refusal_code step e) ≡ grave.Error
grave-refusal step IndexOutOfBounds = refl
grave-refusal (named name) Invalid = refl
grave-refusal (numbered i) Invalid = refl
grave-refusal (keyed name) Invalid = refl
grave-refusal (named name) Missing =
    grave-choice (bytes_eq name (codes "uri")) (bytes_eq name (codes "mimeType"))
grave-refusal (numbered i) Missing = refl
grave-refusal (keyed name) Missing = refl
grave-refusal step Oversize = refl
grave-refusal step Unsupported = refl

found-one : (path : List Place) (c : Code) → severity c ≡ grave.Error
    → count_of grave.Error ((path, c) ∷ []) ≡ 1
found-one path c e = rw e refl

none-left : (m n : ℕ) → m + n ≡ 0 → m ≡ 0
none-left m n e = omega arith

none-right : (m n : ℕ) → m + n ≡ 0 → n ≡ 0
none-right m n e = omega arith

pub hold-without-errors : (path : List Place) (step : Place) (t : rules.Rules)
    → count_of grave.Error (findings_of path (refusals step t)) ≡ 0 → rules.Hold t
hold-without-errors path step rules.Nothing e = tt
hold-without-errors path step (rules.Condition true x) e = refl
hold-without-errors path step (rules.Condition false x) e =
    let one : ◌≡◌ {A = ℕ} 1 0 = sym (found-one path (refusal_code step x) (grave-refusal step x))
    ∙ e in cc
hold-without-errors path step (rules.At s t) e = hold-without-errors (path ++ s ∷ []) s t e
hold-without-errors path step (rules.Both t u) e =
    let both : count_of grave.Error (findings_of path (refusals step t))
    + count_of grave.Error (findings_of path (refusals step u)) ≡ 0 =
    sym (count-append (findings_of path (refusals step t)) (findings_of path (refusals step u)))
    ∙ e in (
      hold-without-errors path step t (none-left
          (count_of grave.Error (findings_of path (refusals step t)))
          (count_of grave.Error (findings_of path (refusals step u))) both),
      hold-without-errors path step u (none-right
          (count_of grave.Error (findings_of path (refusals step t)))
          (count_of grave.Error (findings_of path (refusals step u))) both),
    )

pub front-without-errors : (xs ys : List (List Place × Code))
    → count_of grave.Error (xs ++ ys) ≡ 0 → count_of grave.Error xs ≡ 0
front-without-errors xs ys e =
    none-left (count_of grave.Error xs) (count_of grave.Error ys) (sym (count-append xs ys) ∙ e)
