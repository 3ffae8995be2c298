-- What readers read is given by the answers for each buffer, and is the same in documents that
-- show the same; and `nth` is repeated `next`.
use Rattle.std.specs.Prelude.{ℕ, List, Option}
use Rattle.gltf_handles.specs.Positions.{Position, ByNext, Nth}
use Rattle.gltf_json.specs.Alike.{AreAlikeInEachMember}
use Rattle.gltf_json.specs.declared.root.Root.{Root}
use Rattle.gltf_data.specs.Answers.{Results, AlwaysAnswers}
use Rattle.gltf_read.specs.Reading.{Table, ReadsMember, IsMember}

-- what was read by a closure that answers one buffer always alike is given by these answers
abbrev pub IsByAnswers : {E : Type 0} → Table E → Results → Type 0
IsByAnswers {E} Are Gives =
    (r : Root) (answer : ℕ → Option (List ℕ)) → AlwaysAnswers Gives r answer
    → (index : Option ℕ) (result : Option E)
    → ReadsMember Are Gives r index result → IsMember Are r answer index result

-- what holds of the one document holds of the other, by the same answers
abbrev pub IsAlike : {E : Type 0} → Table E → Type 0
IsAlike {E} Are =
    (r s : Root) → AreAlikeInEachMember r s
    → (answer : ℕ → Option (List ℕ)) (index : Option ℕ) (result : Option E)
    → IsMember Are r answer index result → IsMember Are s answer index result

-- `nth(n)` gives what the last of n + 1 calls of `next` gives, and leaves what they leave
abbrev pub IsRepeatedNext : {S A : Type 0} → (S → ℕ → A → Type 0) → Type 0
IsRepeatedNext {S} {A} Gives =
    (old new : Position S) (n : ℕ) (given : Option A)
    → ByNext Gives old n given new → Nth Gives old n given new
