-- What is reported is what is found, and it is found exactly where a condition fails.
use Rattle.std.proofs.Common.{◌≡◌, ℕ, ◌⊎◌, inl, inr, true, false, List, [], ◌∷◌, ◌++◌, refl, sym}
use Rattle.std.proofs.Common.{◌∙◌}
use Rattle.std.proofs.Common.{ap, append_assoc, arith}
use Rattle.std.proofs.lemmas.List.{append-nil}
use Rattle.std.proofs.lemmas.Grind.{common_steps}
use Rattle.std.specs.List.{Contains}
use Rattle.std.proofs.lemmas.List.Elements.{Contains-append_left, Contains-append_right}
use Rattle.std.proofs.lemmas.List.Elements.{Contains-append_cases, Contains-push_cases}
use Rattle.std.proofs.lemmas.List.Elements.{Contains-push}
use Rattle.gltf_json_record.specs.Place.{Place}
use Rattle.gltf_findings.specs.declared.code.Code.{Code}
use Rattle.gltf_findings.specs.Checks.{Checks, Nothing, Condition, At, Both, told_after}
use Rattle.gltf_findings.specs.Checks.{findings_of, Fails}

-- a walk adds what is found after what it had
pub told_after-found : (told : List (List Place × Code)) (path : List Place) (t : Checks)
    → told_after told path t ≡ told ++ findings_of path t
told_after-found told path Nothing = grind (arith, common_steps)
told_after-found told path (Condition true c) = grind (arith, common_steps)
told_after-found told path (Condition false c) = refl
told_after-found told path (At s t) = told_after-found told (path ++ s ∷ []) t
told_after-found told path (Both t u) =
    rw (
      told_after-found (told_after told path t) path u,
      told_after-found told path t,
    )
    (append_assoc told (findings_of path t) (findings_of path u))

-- what is found at a path below front is a condition that fails there
pub found-where_fails : (front : List Place) (t : Checks) (rest : List Place) (c : Code)
    → Fails t rest c → Contains (findings_of front t) (front ++ rest, c)
found-where_fails front Nothing rest c h = cc
found-where_fails front (Condition true its) rest c h = cc
found-where_fails front (Condition false its) rest c h =
    rw (h.1, h.2, append-nil front) (Contains-push [] (front, its))
found-where_fails front (At s t) rest c h =
    let below : Contains (findings_of (front ++ s ∷ []) t) ((front ++ s ∷ []) ++ h.0, c) =
    found-where_fails (front ++ s ∷ []) t h.0 c h.2 in
    let there : front ++ rest ≡ (front ++ s ∷ []) ++ h.0 =
    ap (λ r. front ++ r) h.1 ∙ sym (append_assoc front (s ∷ []) h.0) in
    rw there below
found-where_fails front (Both t u) rest c (inl h) =
    Contains-append_left (findings_of front t) (findings_of front u) (front ++ rest, c)
    (found-where_fails front t rest c h)
found-where_fails front (Both t u) rest c (inr h) =
    Contains-append_right (findings_of front t) (findings_of front u) (front ++ rest, c)
    (found-where_fails front u rest c h)

none : {A : Type 0} (x : A) → Contains [] x → ◌≡◌ {A = ℕ} 1 0
none x h = omega (arith, h.1)

alone : {A : Type 0} (x y : A) → Contains (x ∷ []) y → y ≡ x
alone x y h = elim (Contains-push_cases [] x y h) as (λ _. y ≡ x)
    [ inl n ↦ (let z : ◌≡◌ {A = ℕ} 1 0 = none y n in cc) | inr e ↦ sym e ]

-- and the other way round
pub fails-where_found : (front : List Place) (t : Checks) (f : List Place × Code)
    → Contains (findings_of front t) f
    → (rest : List Place) × (f.0 ≡ front ++ rest) × Fails t rest f.1
fails-where_found front Nothing f h = let z : ◌≡◌ {A = ℕ} 1 0 = none f h in ([], cc, cc)
fails-where_found front (Condition true its) f h =
    let z : ◌≡◌ {A = ℕ} 1 0 = none f h in ([], cc, (cc, cc, cc))
fails-where_found front (Condition false its) f h =
    let same : f ≡ (front, its) = alone (front, its) f h in
    ([], rw (append-nil front) (ap (λ x. x.0) same), (refl, refl, ap (λ x. x.1) same))
fails-where_found front (At s t) f h =
    let below : (rest : List Place) × (f.0 ≡ (front ++ s ∷ []) ++ rest) × Fails t rest f.1 =
    fails-where_found (front ++ s ∷ []) t f h in
    (s ∷ below.0, below.1 ∙ append_assoc front (s ∷ []) below.0, (below.0, refl, below.2))
fails-where_found front (Both t u) f h =
    elim (Contains-append_cases (findings_of front t) (findings_of front u) f h)
    as (λ _. (rest : List Place) × (f.0 ≡ front ++ rest) × (Fails t rest f.1 ⊎ Fails u rest f.1)) [
      | inl a ↦ (let below : (rest : List Place) × (f.0 ≡ front ++ rest) × Fails t rest f.1 =
          fails-where_found front t f a in (below.0, below.1, inl below.2))
      | inr b ↦ (let below : (rest : List Place) × (f.0 ≡ front ++ rest) × Fails u rest f.1 =
          fails-where_found front u f b in (below.0, below.1, inr below.2))
    ]
