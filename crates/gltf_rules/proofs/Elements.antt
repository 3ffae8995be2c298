-- Where the rules of a list hold, those of each element do.
use Rattle.std.proofs.Common.{ℕ, ◌≡◌, ◌<◌, ◌+◌, suc, zero, List, [], ◌∷◌, length, get_or, true}
use Rattle.std.proofs.Common.{refl, sym, arith, subst}
use Rattle.std.specs.Prelude.{◌==◌}
use Rattle.std.proofs.lemmas.Bool.Decides.{nat_tests}
use Rattle.std.proofs.lemmas.Grind.{common_steps}
use Rattle.gltf_validation.specs.Rules.{Rules, Hold}
use Rattle.gltf_validation.specs.Members.{elements_rules, list_rules}

element_holds_from : {T : Type 0} (rules : T → Rules) (i : ℕ) (xs : List T) (k : ℕ) (x : T)
    → k < length xs → x ≡ get_or xs k x → Hold (elements_rules rules i xs) → Hold (rules x)
element_holds_from rules i [] k x l e h = absurd (omega arith)
element_holds_from rules i (y ∷ ys) zero x l e h = subst (λ z. Hold (rules z)) (sym e) h.0
element_holds_from rules i (y ∷ ys) (suc k) x l e h =
    let shorter : k < length ys = omega arith in
    element_holds_from rules (i + 1) ys k x shorter e h.1

pub element_holds : {T : Type 0} (rules : T → Rules) (xs : List T) (k : ℕ) (x : T)
    → k < length xs → x ≡ get_or xs k x → Hold (list_rules rules xs) → Hold (rules x)
element_holds rules xs k x l e h = element_holds_from rules 0 xs k x l e h

-- a list of no length has no element
pub empty_of : {A : Type 0} (xs : List A) (n : ℕ) → n ≡ length xs → (n == 0) ≡ true → xs ≡ []
empty_of [] n l e = refl
empty_of (x ∷ xs) n l e = grind (arith, common_steps, nat_tests)
