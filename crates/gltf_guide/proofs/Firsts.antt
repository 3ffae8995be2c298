-- The steps of a walk that are not given again.
use Rattle.std.proofs.Common.{◌≡◌, List, [], ◌∷◌, refl, ap, suc, inl, inr, ◌∙◌, sym}
use Rattle.std.specs.Prelude.{not, length, map, count_by}
use Rattle.std.specs.List.{filter}
use Rattle.std.proofs.lemmas.Bool.{cases_Bool}
use Rattle.std.proofs.lemmas.List.Sums.{length-filter}
use Rattle.gltf_walk.specs.DepthFirst.{Visit}
use Rattle.gltf_walk.specs.Reached.{firsts}

by_filter : {S : Type 0} (visit : S → Visit) (steps : List S)
    → length (firsts (map visit steps)) ≡ length (filter (λ s. not (visit s).again) steps)
by_filter visit [] = refl
by_filter visit (s ∷ steps) =
    elim (cases_Bool (visit s).again) [
      | inl again ↦ rw again (by_filter visit steps)
      | inr first ↦ rw first (ap (λ n. suc n) (by_filter visit steps))
    ]

-- they have as many nodes as a count of them finds
pub count_by-first : {S : Type 0} (visit : S → Visit) (steps : List S)
    → count_by (λ s. not (visit s).again) steps ≡ length (firsts (map visit steps))
count_by-first visit steps =
    sym (length-filter (λ s. not (visit s).again) steps) ∙ sym (by_filter visit steps)
