-- The answers of buffers: where none is a fault, they are the bytes of all.
use Rattle.std.proofs.Common.{◌≡◌, ◌≢◌, ℕ, List, [], ◌∷◌, ◌++◌, map, suc, refl, ap}
use Rattle.std.proofs.Common.{true, false, Result, Ok, Err, ◌∙◌, sym, subst, length}
use Rattle.std.specs.Prelude.{Option}
use Rattle.std.specs.declared.alloc.Global.{Global}
use Rattle.std.specs.declared.rc.Rc.{Rc}
use Rattle.gltf_buffers.specs.Buffers.{Source, AreBytes}
use Rattle.gltf_buffers.specs.Each.{AreAnswers}
use Rattle.gltf_buffers.specs.EachLaws.{AreBytesOfAll}
use Rattle.gltf_buffers.specs.Names.{Names}
use Rattle.gltf_buffers.specs.declared.data.Data.{Data}
use Rattle.gltf_shared.specs.Shared.{AreShared}
use Rattle.gltf_shared.specs.Shown.{answer_of, answer_of_each}
use Rattle.gltf_glb.specs.declared.error.Error.{Error}
use Rattle.gltf_inspect_files.specs.Buffers.{buffers_findings, had, is_nil}

pub all_had : (i : ℕ) (answers : List (Result (List ℕ) Error)) → buffers_findings i answers ≡ []
    → answers ≡ map Ok (had answers)
all_had i [] none = refl
all_had i (Ok bytes ∷ answers) none = ap (λ rest. Ok bytes ∷ rest) (all_had (suc i) answers none)
all_had i (Err e ∷ answers) none = cc

had_append : (xs ys : List (Result (List ℕ) Error)) → had (xs ++ ys) ≡ had xs ++ had ys
had_append [] ys = refl
had_append (Ok bytes ∷ xs) ys = ap (λ rest. bytes ∷ rest) (had_append xs ys)
had_append (Err e ∷ xs) ys = had_append xs ys

map-push : {A B : Type 0} (f : A → B) (xs : List A) (x : A)
    → map f (xs ++ x ∷ []) ≡ map f xs ++ f x ∷ []
map-push f [] x = refl
map-push f (y ∷ ys) x = ap (λ rest. f y ∷ rest) (map-push f ys x)

pub had_one_more : (answers : List (Result (Rc Data Global) Error)) (answer : Result (Rc Data Global) Error)
    → had (answer_of_each (answers ++ answer ∷ []))
    ≡ had (answer_of_each answers) ++ had (answer_of answer ∷ [])
had_one_more answers answer =
    ap had (map-push answer_of answers answer)
    ∙ had_append (answer_of_each answers) (answer_of answer ∷ [])

pub all_are_had : (names : Names) (sources : List Source) (blob : Option (List ℕ))
    (answers : List (Result (List ℕ) Error)) (buffers : List (List ℕ)) → AreBytesOfAll
    → AreAnswers names sources blob (length sources) answers
    → buffers_findings 0 answers ≡ [] → buffers ≡ had answers
    → AreBytes names sources blob (length sources) buffers
all_are_had names sources blob answers buffers law are none same =
    let ok : answers ≡ map Ok buffers = all_had 0 answers none ∙ ap (map Ok) (sym same) in
    law names sources blob (length sources) buffers
    (subst (AreAnswers names sources blob (length sources)) ok are)

pub are_shared : (sources : List Source) (answers : List (Result (List ℕ) Error))
    (buffers : List (List ℕ)) → buffers_findings 0 answers ≡ [] → buffers ≡ had answers
    → AreShared sources answers → AreShared sources (map Ok buffers)
are_shared sources answers buffers none same shared =
    let ok : answers ≡ map Ok buffers = all_had 0 answers none ∙ ap (map Ok) (sym same) in
    subst (AreShared sources) ok shared

-- a list that is tested is empty, or is not
pub nil : {T : Type 0} (xs : List T) → is_nil xs ≡ true → xs ≡ []
nil [] e = refl
nil (x ∷ xs) e = cc

pub not_nil : {T : Type 0} (xs : List T) → is_nil xs ≡ false → xs ≢ []
not_nil [] e = cc
not_nil (x ∷ xs) e = λ same. cc
