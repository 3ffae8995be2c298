-- The answers of a list of steps, in terms of the items that are left.
use Rattle.std.proofs.Common.{◌≡◌, ℕ, zero, suc, ◌+◌, ◌<◌, List, [], ◌∷◌, length, take, get_or, refl}
use Rattle.std.proofs.Common.{ap, ◌∙◌, arith}
use Rattle.std.specs.Prelude.{Result, Ok, Err, OnErr}
use Rattle.gltf_data.specs.Steps.{answer_of, after_step}
use Rattle.gltf_data.specs.declared.walk.Step.{Step}
use Rattle.gltf_data.specs.declared.walk.Answer.{Answer}

abbrev pub answers_of : {X : Type 0} → List X → List Step → List (Answer X)
answers_of left [] = []
answers_of left (step ∷ steps) = answer_of left step ∷ answers_of (after_step left step) steps

abbrev pub after_steps : {X : Type 0} → List X → List Step → List X
after_steps left [] = left
after_steps left (step ∷ steps) = after_steps (after_step left step) steps

next_on : {X : Type 0} (left : List X) (steps : List Step) (i : ℕ) (d : Step) → i < length steps
    → after_steps left (take (suc i) steps)
    ≡ after_step (after_steps left (take i steps)) (get_or steps i d)
next_on left [] i d below = absurd (omega (arith, below))
next_on left (step ∷ steps) zero d below = refl
next_on left (step ∷ steps) (suc i) d below =
    next_on (after_step left step) steps i d (omega (arith, below))

-- after one step more
pub one_more : {X : Type 0} (left : List X) (steps : List Step) (i : ℕ) (d : Step)
    → i < length steps
    → after_steps left (take (i + 1) steps)
    ≡ after_step (after_steps left (take i steps)) (get_or steps i d)
one_more left steps i d below =
    let next : i + 1 ≡ suc i = omega arith in
    ap (λ n. after_steps left (take n steps)) next ∙ next_on left steps i d below

-- where it is cut short
pub where_cut : {T E : Type 0} (P : Type 0) (result : Result T E) → P → OnErr result P
where_cut P (Ok x) p = tt
where_cut P (Err e) p = p
