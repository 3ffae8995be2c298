-- A condition on a member of each skin, and where it is found to fail.
use Rattle.std.proofs.Common.{◌≡◌, ◌+◌, ℕ, zero, suc, Bool, false, inl, inr, refl, ◌∙◌, ap, arith}
use Rattle.std.proofs.Common.{List, [], ◌∷◌}
use Rattle.std.specs.Prelude.{codes, Some}
use Rattle.gltf_json_record.specs.Place.{Place, named, numbered}
use Rattle.gltf_json_scene.specs.declared.skin.Skin.{Skin}
use Rattle.gltf_findings.specs.declared.code.Code.{Code}
use Rattle.gltf_findings.specs.Checks.{Checks, Condition, Fails, member, elements_checks}
use Rattle.gltf_findings.specs.Checks.{list_checks}
use Rattle.gltf_inspect_loops.specs.Ancestors.{skin_at}

abbrev pub check_at : List ℕ → (Skin → Bool) → Code → Skin → Checks
check_at name holds code s = member name (Condition (holds s) code)

fails_at : (name : List ℕ) (holds : Skin → Bool) (code : Code) (i : ℕ) (ss : List Skin)
    (path : List Place) → Fails (elements_checks (check_at name holds code) i ss) path code
    → (k : ℕ) × (s : Skin) × (path ≡ numbered (i + k) ∷ named name ∷ [])
    × (skin_at ss k ≡ Some s) × (holds s ≡ false)
fails_at name holds code i [] path h = cc
fails_at name holds code i (s ∷ ss) path (inl first) = (
  zero,
  s,
  first.1
      ∙ ap (λ p. numbered i ∷ p) (first.2.1 ∙ ap (λ p. named name ∷ p) first.2.2.1)
      ∙ ap (λ n. numbered n ∷ named name ∷ []) (let e : i ≡ i + zero = omega arith in e),
  refl,
  first.2.2.0,
)
fails_at name holds code i (s ∷ ss) path (inr rest) =
    let there = fails_at name holds code (i + 1) ss path rest in (
      suc there.0,
      there.1,
      there.2
          ∙ ap (λ n. numbered n ∷ named name ∷ [])
          (let e : (i + 1) + there.0 ≡ i + suc there.0 = omega arith in e),
      there.3,
      there.4,
    )

at_fails : (name : List ℕ) (holds : Skin → Bool) (code : Code) (i : ℕ) (ss : List Skin) (k : ℕ)
    (s : Skin) (n : ℕ) → skin_at ss k ≡ Some s → n ≡ i + k → holds s ≡ false
    → Fails (elements_checks (check_at name holds code) i ss) (numbered n ∷ named name ∷ []) code
at_fails name holds code i [] k s n at sum h = cc
at_fails name holds code i (x ∷ xs) zero s n at sum h =
    let same : x ≡ s = cc in
    let number : n ≡ i = omega arith in
    inl (
      named name ∷ [],
      ap (λ m. numbered m ∷ named name ∷ []) number,
      ([], refl, (ap holds same ∙ h, refl, refl)),
    )
at_fails name holds code i (x ∷ xs) (suc k) s n at sum h =
    inr (at_fails name holds code (i + 1) xs k s n at
    (let e : n ≡ (i + 1) + k = omega arith in e) h)

pub found_skin : (name : List ℕ) (holds : Skin → Bool) (code : Code) (ss : List Skin)
    (path : List Place)
    → Fails (member (codes "skins") (list_checks (check_at name holds code) ss)) path code
    → (i : ℕ) × (s : Skin) × (path ≡ named (codes "skins") ∷ numbered i ∷ named name ∷ [])
    × (skin_at ss i ≡ Some s) × (holds s ≡ false)
found_skin name holds code ss path h =
    let at = fails_at name holds code 0 ss h.0 h.2 in (
      at.0,
      at.1,
      h.1
          ∙ ap (λ p. named (codes "skins") ∷ p) at.2
          ∙ ap (λ n. named (codes "skins") ∷ numbered n ∷ named name ∷ [])
          (let e : 0 + at.0 ≡ at.0 = omega arith in e),
      at.3,
      at.4,
    )

pub skin_found : (name : List ℕ) (holds : Skin → Bool) (code : Code) (ss : List Skin)
    (path : List Place) (i : ℕ) (s : Skin)
    → path ≡ named (codes "skins") ∷ numbered i ∷ named name ∷ [] → skin_at ss i ≡ Some s
    → holds s ≡ false
    → Fails (member (codes "skins") (list_checks (check_at name holds code) ss)) path code
skin_found name holds code ss path i s at is_skin h = (
  numbered i ∷ named name ∷ [],
  at,
  at_fails name holds code 0 ss i s i is_skin (let e : i ≡ 0 + i = omega arith in e) h,
)
