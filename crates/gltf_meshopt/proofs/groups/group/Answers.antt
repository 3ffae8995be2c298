use Rattle.std.proofs.Common.{◌≡◌, ◌≤◌, ◌-◌, ℕ, List, [], ◌∷◌, length, get_or, take, drop, refl}
use Rattle.std.proofs.Common.{◌∙◌, arith}
use Rattle.std.proofs.lemmas.Bool.{le-ltb}
use Rattle.std.proofs.lemmas.List.{take_rest}
use Rattle.std.specs.List.{flat_map}
use Rattle.gltf_meshopt.specs.Attributes.{halves, deltas_of, group_at}
use Rattle.gltf_meshopt.proofs.groups.group.Goals as goal

front_8 : (bytes : List ℕ) → 8 ≤ length bytes → take 8 bytes ≡ get_or bytes 0 0 ∷ get_or bytes 1 0
    ∷ get_or bytes 2 0 ∷ get_or bytes 3 0 ∷ get_or bytes 4 0 ∷ get_or bytes 5 0 ∷ get_or bytes 6 0
    ∷ get_or bytes 7 0 ∷ []
front_8 [] le = absurd (omega arith)
front_8 (a ∷ []) le = absurd (omega arith)
front_8 (a ∷ b ∷ []) le = absurd (omega arith)
front_8 (a ∷ b ∷ c ∷ []) le = absurd (omega arith)
front_8 (a ∷ b ∷ c ∷ d ∷ []) le = absurd (omega arith)
front_8 (a ∷ b ∷ c ∷ d ∷ e ∷ []) le = absurd (omega arith)
front_8 (a ∷ b ∷ c ∷ d ∷ e ∷ f ∷ []) le = absurd (omega arith)
front_8 (a ∷ b ∷ c ∷ d ∷ e ∷ f ∷ g ∷ []) le = absurd (omega arith)
front_8 (a ∷ b ∷ c ∷ d ∷ e ∷ f ∷ g ∷ h ∷ rest) le = refl

of_halves : (width : ℕ) (bytes cells : List ℕ) → width ≡ 2 → 8 ≤ length bytes
    → cells ≡ flat_map halves (get_or bytes 0 0 ∷ get_or bytes 1 0 ∷ get_or bytes 2 0 ∷ get_or
    bytes 3 0 ∷ get_or bytes 4 0 ∷ get_or bytes 5 0 ∷ get_or bytes 6 0 ∷ get_or bytes 7 0 ∷ [])
    → deltas_of 15 cells (take (length bytes - 8) (drop 8 bytes)) ≡ group_at width bytes
unfolding group_at
of_halves width bytes cells e le h = rw (
  e,
  take_rest bytes 8,
  le-ltb (length bytes) 8 le,
  front_8
      bytes le,
  h,
) refl

pub returns-in_err-rest-in-2-clause-value : goal.returns-in_err-rest-in-2-clause-value
returns-in_err-rest-in-2-clause-value c = rw c.from_residual-in_err-rest-in-2.ensures
    (c.in_err-rest-in-2.ensures ∙ of_halves c.args.width c.args.bytes.now c.halves_of-cells.result
    c.in-2.is c.in-len8-up.len_at_least c.halves_of-cells.ensures)

pub returns-in_ok-rest-in-2-clause-value : goal.returns-in_ok-rest-in-2-clause-value
returns-in_ok-rest-in-2-clause-value c = c.in_ok-rest-in-2.ensures ∙ of_halves c.args.width
    c.args.bytes.now c.halves_of-cells.result c.in-2.is c.in-len8-up.len_at_least
    c.halves_of-cells.ensures
