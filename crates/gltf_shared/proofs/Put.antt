-- What is held, one name more.
use Rattle.std.proofs.Common.{ℕ, ◌≡◌, ◌≢◌, ◌⊎◌, Bool, true, false, List, refl, sym, subst, ◌∙◌}
use Rattle.std.proofs.Common.{inl, inr}
use Rattle.std.specs.Prelude.{Option, Some, None}
use Rattle.std.specs.Str.{bytes_eq}
use Rattle.std.proofs.lemmas.Slice.Eq.{bytes_eq-Decides}
use Rattle.gltf_names.specs.Named.{Named, File, Relative}
use Rattle.gltf_buffers.specs.Names.{Names}
use Rattle.gltf_shared.specs.Given.{held_at, Puts, Keeps, IsSound, MayBeHeld}
use Rattle.gltf_shared.specs.declared.held.Held.{Held}

decided : {P : Type 0} (r : Bool) → (r ≡ true → P) → (P → r ≡ true) → P ⊎ (P → ⊥)
decided true there back = inl (there refl)
decided false there back = inr (λ p. let e = back p in cc)

text_cases : (x y : List ℕ) → (x ≡ y) ⊎ (x ≢ y)
text_cases x y =
    decided (bytes_eq x y) (bytes_eq-Decides x y).0 (bytes_eq-Decides x y).1

pub named_cases : (a b : Named) → (a ≡ b) ⊎ (a ≢ b)
named_cases (File x) (File y) = elim (text_cases x y) [
  | inl e ↦ inl (rw e refl)
  | inr ne ↦ inr (λ e. let same : x ≡ y = cc in ne same)
]
named_cases (File x) (Relative y) = inr (λ e. cc)
named_cases (Relative x) (File y) = inr (λ e. cc)
named_cases (Relative x) (Relative y) = elim (text_cases x y) [
  | inl e ↦ inl (rw e refl)
  | inr ne ↦ inr (λ e. let same : x ≡ y = cc in ne same)
]

pub sound_put : (names : Names) (old new : Held) (name : Named) (bytes : Option (List ℕ))
    → IsSound names old → Puts old new name bytes → MayBeHeld names name bytes
    → IsSound names new
sound_put names old new name bytes sound put may other found at =
    elim (named_cases other name) [
      | inl e ↦
          let there : held_at new name ≡ Some found =
          subst (λ (n : Named). held_at new n ≡ Some found) e at in
          let put_there = put.same in
          let same : bytes ≡ found = cc in
          subst (λ (n : Named). MayBeHeld names n found) (sym e)
          (subst (λ (x : Option (List ℕ)). MayBeHeld names name x) same may)
      | inr ne ↦ sound other found (sym (put.others other ne) ∙ at)
    ]

pub keeps_put : (old new : Held) (name : Named) (bytes : Option (List ℕ))
    → held_at old name ≡ None → Puts old new name bytes → Keeps old new
keeps_put old new name bytes none put other found at =
    let ne : other ≢ name =
    λ e. (let there : held_at old name ≡ Some found =
    subst (λ (n : Named). held_at old n ≡ Some found) e at in cc) in
    put.others other ne ∙ at
