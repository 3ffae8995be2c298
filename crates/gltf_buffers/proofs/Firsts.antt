-- `cut_at` cuts at the first place.
use Rattle.std.proofs.Common.{ℕ, ◌≡◌, ◌≤◌, Bool, true, false, List, [], ◌∷◌, ◌++◌, length, drop}
use Rattle.std.proofs.Common.{refl, ap, arith}
use Rattle.std.specs.Prelude.{Option, Some, None, MatchOption, option_map, nat_eq, if◌then◌else◌}
use Rattle.std.specs.List.{starts_with}
use Rattle.std.proofs.lemmas.List.{length-append}
use Rattle.gltf_buffers.specs.Uri.{cut_at}
use Rattle.gltf_buffers.specs.UriLaws.{IsFirstCut, IsNowhere, CutsAtFirst}
use Rattle.gltf_buffers.proofs.Prefixes.{parts_of, no_parts}

-- the mark is not at the head: it stands in the tail
in_tail : (n s before behind : List ℕ) (b c : ℕ) → b ∷ s ≡ (c ∷ before) ++ n ++ behind
    → s ≡ before ++ n ++ behind
in_tail n s before behind b c e = ap (λ (xs : List ℕ). drop 1 xs) e

nowhere : (n s : List ℕ) (b : ℕ) → starts_with nat_eq (b ∷ s) n ≡ false → IsNowhere n s
    → IsNowhere n (b ∷ s)
nowhere n s b isnt none [] behind e = no_parts n (b ∷ s) behind isnt e
nowhere n s b isnt none (c ∷ before) behind e = none before behind (in_tail n s before behind b c e)

first : (n s front back : List ℕ) (b : ℕ) → starts_with nat_eq (b ∷ s) n ≡ false
    → IsFirstCut n s front back
    → (before behind : List ℕ) → b ∷ s ≡ before ++ n ++ behind → length (b ∷ front) ≤ length before
first n s front back b isnt cut [] behind e = absurd (no_parts n (b ∷ s) behind isnt e)
first n s front back b isnt cut (c ∷ before) behind e =
    omega (arith, cut.first before behind (in_tail n s before behind b c e))

step : (n s : List ℕ) (b : ℕ) (begins : Bool) (further : Option (List ℕ × List ℕ))
    → starts_with nat_eq (b ∷ s) n ≡ begins
    → MatchOption further (IsNowhere n s) (λ parts. IsFirstCut n s parts.0 parts.1)
    → MatchOption {T = List ℕ × List ℕ}
    (if begins then Some ([], drop (length n) (b ∷ s)) else option_map
    (λ p. (b ∷ p.0, p.1)) further)
    (IsNowhere n (b ∷ s)) (λ parts. IsFirstCut n (b ∷ s) parts.0 parts.1)
step n s b true further begins cut =
    record { stands = parts_of n (b ∷ s) begins; first = λ before behind e. omega arith }
step n s b false None begins none = nowhere n s b begins none
step n s b false (Some p) begins cut =
    record {
      stands = ap
          (λ (xs : List ℕ). b ∷ xs) cut.stands;
      first = first n s p.0 p.1 b begins cut;
    }

pub cuts_at_first : CutsAtFirst
unfolding cut_at
cuts_at_first n [] some =
    λ before behind e. omega
    (arith, length-append (before ++ n) behind, length-append before n, ap length e)
cuts_at_first n (b ∷ s) some =
    step n s b (starts_with nat_eq (b ∷ s) n) (cut_at n s) refl (cuts_at_first n s some)
