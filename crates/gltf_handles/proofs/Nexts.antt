-- Repeated calls of `next` on a list.
use Rattle.std.proofs.Common.{◌≡◌, ℕ, zero, suc, ◌+◌, ◌<◌, ◌≤◌, ◌⊎◌, inl, inr, ◌∙◌, subst, arith}
use Rattle.std.specs.Prelude.{Option, Some, None}
use Rattle.gltf_handles.specs.Positions.{Position, Nth, ByNext}

module _ {S A : Type 0} {Gives : S → ℕ → A → Type 0} where
  -- the position after one call
  one_on : {old new : Position S} (first : Option A) → Nth Gives old 0 first new
      → ((old.next < old.end) × (new.next ≡ old.next + 1))
      ⊎ ((old.end ≤ old.next) × (new.next ≡ old.end))
  one_on None h = inr (omega (arith, h.item.0), h.item.1)
  one_on (Some x) h = inl (omega (arith, h.item.0), omega (arith, h.item.2))

  -- an item that is given after one call
  given_behind : {old between new : Position S} (n : ℕ) (given : Option A) → old.next < old.end
      → between.next ≡ old.next + 1 → between.source ≡ old.source → between.end ≡ old.end
      → Nth Gives between n given new → Nth Gives old (suc n) given new
  given_behind {old = old} {between = between} n None some next source end h =
      record {
        source = h.source ∙ source;
        end = h.end ∙ end;
        item = (omega (arith, h.item.0), h.item.1 ∙ end);
      }
  given_behind {old = old} {between = between} n (Some x) some next source end h =
      let at : between.next + n ≡ old.next + suc n = omega arith in
      let given : Gives old.source (old.next + suc n) x =
      subst (λ s. Gives s (old.next + suc n) x) source
      (subst (λ i. Gives between.source i x) at h.item.1) in
      record {
        source = h.source ∙ source;
        end = h.end ∙ end;
        item = (omega (arith, h.item.0), given, omega (arith, h.item.2));
      }

  -- none is given after the end
  none_behind : {old between new : Position S} (n : ℕ) (given : Option A) → old.end ≤ old.next
      → between.next ≡ old.end → between.source ≡ old.source → between.end ≡ old.end
      → Nth Gives between n given new → Nth Gives old (suc n) given new
  none_behind {old = old} {between = between} n None none next source end h =
      record { source = h.source ∙ source; end = h.end ∙ end; item = (omega arith, h.item.1 ∙ end) }
  none_behind {old = old} {between = between} n (Some x) none next source end h =
      absurd (omega (arith, h.item.0))

  pub nth_next : (old new : Position S) (n : ℕ) (given : Option A) → ByNext Gives old n given new
      → Nth Gives old n given new
  nth_next old new zero given h = h
  nth_next old new (suc n) given h =
      let first : Nth Gives old 0 h.0 h.1 = h.2 in
      let others : Nth Gives h.1 n given new = nth_next h.1 new n given h.3 in
      elim (one_on h.0 first) [
        | inl some ↦ given_behind n given some.0 some.1 first.source first.end others
        | inr none ↦ none_behind n given none.0 none.1 first.source first.end others
      ]
