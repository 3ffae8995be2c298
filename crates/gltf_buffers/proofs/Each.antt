-- Each buffer's own answer, one more at a time.
use Rattle.std.proofs.Common.{ℕ, ◌≡◌, ◌<◌, ◌+◌, List, [], ◌∷◌, ◌++◌, Result, Ok, Err, length}
use Rattle.std.proofs.Common.{reverse, refl, sym, ap, ◌∙◌, inl, inr, arith}
use Rattle.std.specs.Prelude.{Option, Some, None, IfOk, IfErr, OnOk, slice_get}
use Rattle.std.specs.List.{zip}
use Rattle.std.specs.Option.{option_to_list}
use Rattle.std.proofs.lemmas.Bool.{cases_lt}
use Rattle.std.proofs.lemmas.List.{append-nil, append_assoc, length-append, reverse-append}
use Rattle.std.proofs.lemmas.List.{get_or_append_left}
use Rattle.std.proofs.lemmas.List.Concat.{flat_map-append}
use Rattle.std.proofs.lemmas.Option.{get_or_from_slice_get, slice_get-get_or, slice_get_within}
use Rattle.std.proofs.lemmas.Option.{same_Some}
use Rattle.std.proofs.Math.Seq.{get_or-append_seam}
use Rattle.gltf_glb.specs.declared.error.Error.{Error}
use Rattle.gltf_glb.specs.declared.error.Error.TheVariants as error
use Rattle.gltf_names.specs.Named.{Named}
use Rattle.gltf_buffers.specs.declared.data.Data.{Data}
use Rattle.gltf_buffers.specs.Buffers.{Source, IsBytesOf, LeadsTo, blob_for}
use Rattle.gltf_buffers.specs.Each.{IsAnswerFor, AreAnswers, NotesEach, failed_name, failed_names}
use Rattle.gltf_buffers.specs.Errors.{FailsOrNames}
use Rattle.gltf_buffers.specs.Names.{Names}
use Rattle.gltf_buffers.specs.Shown.{answer_of}

-- ---- lists with one more at the end

earlier : {A : Type 0} (xs : List A) (x y : A) (k : ℕ) → k < length xs
    → slice_get (xs ++ x ∷ []) k ≡ Some y → slice_get xs k ≡ Some y
earlier xs x y k inside at =
    slice_get-get_or xs k y inside
    ∙ ap Some (sym (get_or_append_left xs (x ∷ []) y k inside)
    ∙ get_or_from_slice_get (xs ++ x ∷ []) k y y at)

last : {A : Type 0} (xs : List A) (x y : A) → slice_get (xs ++ x ∷ []) (length xs) ≡ Some y → y ≡ x
last xs x y at =
    sym (get_or_from_slice_get (xs ++ x ∷ []) (length xs) y y at) ∙ get_or-append_seam xs x [] y

zip_none : {A B : Type 0} (xs : List A) → zip {X = B} xs [] ≡ []
zip_none [] = refl
zip_none (x ∷ xs) = refl

zip_more : {A B : Type 0} (xs : List A) (ys : List B) (x : A) (y : B)
    → slice_get xs (length ys) ≡ Some x → zip xs (ys ++ y ∷ []) ≡ zip xs ys ++ (x, y) ∷ []
zip_more [] ys x y at = cc
zip_more {A} {B} (z ∷ xs) [] x y at =
    rw (same_Some z x at, zip_none {A = A} {B = B} xs) refl
zip_more (z ∷ xs) (w ∷ ys) x y at = rw (zip_more xs ys x y at) refl

-- ---- the answers

pub none_answered : (names : Names) (sources : List Source) (blob : Option (List ℕ))
    → AreAnswers names sources blob 0 []
none_answered names sources blob = record { count = refl; each = λ i s a there at. cc }

each_more : (names : Names) (sources : List Source) (blob : Option (List ℕ)) (i : ℕ)
    (answers : List (Result (List ℕ) Error)) (s : Source) (a : Result (List ℕ) Error)
    → AreAnswers names sources blob i answers → slice_get sources i ≡ Some s
    → IsAnswerFor names (blob_for sources blob i) i s a
    → (k : ℕ) (t : Source) (b : Result (List ℕ) Error) → slice_get sources k ≡ Some t
    → slice_get (answers ++ a ∷ []) k ≡ Some b
    → IsAnswerFor names (blob_for sources blob k) k t b
each_more names sources blob i answers s a so_far there is k t b source answer =
    let within = slice_get_within (answers ++ a ∷ []) k b answer in
    let long = length-append answers (a ∷ []) in
    elim (cases_lt k i) [
      | inl lt ↦
          so_far.each k t b source
          (earlier answers a b k (omega (arith, so_far.count)) answer)
      | inr ge ↦
          let e : k ≡ i = omega (arith, within, long, so_far.count) in
          let at_i : slice_get sources i ≡ Some t = rw e at source in
          let same : t ≡ s = cc in
          let n : k ≡ length answers = omega (arith, within, long, so_far.count) in
          let ends : b ≡ a = last answers a b (rw n at answer) in
          rw (e, same, ends) is
    ]

pub one_answered : (names : Names) (sources : List Source) (blob : Option (List ℕ)) (i : ℕ)
    (answers : List (Result (List ℕ) Error)) (s : Source) (a : Result (List ℕ) Error)
    → AreAnswers names sources blob i answers → slice_get sources i ≡ Some s
    → IsAnswerFor names (blob_for sources blob i) i s a
    → AreAnswers names sources blob (i + 1) (answers ++ a ∷ [])
one_answered names sources blob i answers s a so_far there is = record {
  count = rw (length-append answers (a ∷ []), so_far.count) refl;
  each = each_more names sources blob i answers s a so_far there is;
}

-- what one call says of a buffer is its answer, and what was noted meanwhile
pub is_answer : (names : Names) (blob : Option (List ℕ)) (i : ℕ) (s : Source)
    (old new : List Named) (answer : Result Data Error)
    → IfOk answer (λ read. IsBytesOf names blob i s (Ok read.0.items))
    → IfErr answer (FailsOrNames (λ f. IsBytesOf names blob i s (Err f)) (LeadsTo names s.uri)
    old new)
    → OnOk answer (new ≡ old)
    → IsAnswerFor names blob i s (answer_of answer)
    × (new ≡ option_to_list (failed_name s (answer_of answer)) ++ old)
is_answer names blob i s old new (Ok read) ok told fine = (ok, fine)
is_answer names blob i s old new (Err (error.Io cause)) ok told fine =
    ((told.0, told.1, rw told.1.1 refl), rw told.1.1 told.2)
is_answer names blob i s old new (Err error.Memory) ok told fine = (refl, told)
is_answer names blob i s old new (Err e) ok told fine = ((refl, told.1), told.0)

-- ---- the names that failed

backwards : (o : Option Named) → reverse (option_to_list o) ≡ option_to_list o
backwards None = refl
backwards (Some name) = refl

one_noted : (o : Option Named) (names old mid new : List Named) → mid ≡ reverse names ++ old
    → new ≡ option_to_list o ++ mid → new ≡ reverse (names ++ (option_to_list o ++ [])) ++ old
one_noted o names old mid new so_far more =
    let names_o = option_to_list o in
    rw (
      append-nil names_o,
      reverse-append names names_o,
      backwards o,
      append_assoc names_o (reverse names) old,
    )
    (more ∙ ap (λ (xs : List Named). names_o ++ xs) so_far)

pub none_noted : (sources : List Source) (old : List Named) → NotesEach sources [] old old
none_noted sources old = rw (zip_none {A = Source} {B = Result (List ℕ) Error} sources) refl

pub noted_more : (sources : List Source) (answers : List (Result (List ℕ) Error)) (i : ℕ)
    (s : Source) (a : Result (List ℕ) Error) (old mid new : List Named) → length answers ≡ i
    → slice_get sources i ≡ Some s → NotesEach sources answers old mid
    → new ≡ option_to_list (failed_name s a) ++ mid
    → NotesEach sources (answers ++ a ∷ []) old new
noted_more sources answers i s a old mid new count there so_far more =
    let at = rw (sym count) at there in
    rw (
      zip_more sources answers s a at,
      flat_map-append (λ each. option_to_list (failed_name each.0 each.1)) (zip sources answers)
          ((s, a) ∷ []),
    )
    (one_noted (failed_name s a) (failed_names sources answers) old mid new so_far more)
