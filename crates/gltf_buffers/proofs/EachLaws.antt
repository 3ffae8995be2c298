-- Each buffer's own answer, and the bytes of all.
use Rattle.std.proofs.Common.{ℕ, ◌≡◌, ◌<◌, List, [], ◌∷◌, ◌++◌, zero, suc, Result, Ok, Err}
use Rattle.std.proofs.Common.{length, map, get_or, refl, sym, subst, ◌∙◌, arith}
use Rattle.std.proofs.lemmas.List.{append-nil, length-map}
use Rattle.std.specs.Prelude.{Option, Some, slice_get}
use Rattle.std.specs.Option.{option_to_list}
use Rattle.gltf_glb.specs.declared.error.Error.{Error}
use Rattle.gltf_buffers.specs.Buffers.{Source, AreBytes}
use Rattle.gltf_buffers.specs.Each.{AreAnswers, failed_name}
use Rattle.gltf_buffers.specs.EachLaws.{AreBytesOfAll, FirstErrorIsThatOfAll}
use Rattle.gltf_buffers.specs.Names.{Names}
use Rattle.gltf_buffers.proofs.Buffers.{first_fault}

in_front : {E : Type 0} (before : List (List ℕ)) (after : List (Result (List ℕ) E)) (i : ℕ)
    → i < length before → slice_get (map Ok before ++ after) i ≡ Some (Ok (get_or before i []))
in_front [] after i l = absurd (omega arith)
in_front (x ∷ xs) after zero l = refl
in_front (x ∷ xs) after (suc i) l = in_front xs after i (omega arith)

behind : {E : Type 0} (before : List (List ℕ)) (x : Result (List ℕ) E)
    (after : List (Result (List ℕ) E))
    → slice_get (map Ok before ++ x ∷ after) (length before) ≡ Some x
behind [] x after = refl
behind (y ∷ ys) x after = behind ys x after

-- the bytes of the first buffers, where these have no error
bytes_before : (names : Names) (sources : List Source) (blob : Option (List ℕ)) (n : ℕ)
    (before : List (List ℕ)) (after : List (Result (List ℕ) Error))
    → AreAnswers names sources blob n (map Ok before ++ after)
    → AreBytes names sources blob (length before) before
bytes_before names sources blob n before after are = record {
  count = refl;
  each = λ i s l at. are.each i s (Ok (get_or before i [])) at (in_front before after i l);
}

counted : (answers : List (Result (List ℕ) Error)) (buffers : List (List ℕ))
    → answers ≡ map Ok buffers → length answers ≡ length buffers
counted answers buffers e = rw e (length-map buffers Ok)

no_more : (names : Names) (sources : List Source) (blob : Option (List ℕ)) (n : ℕ)
    (answers : List (Result (List ℕ) Error)) → AreAnswers names sources blob n answers
    → AreAnswers names sources blob n (answers ++ [])
no_more names sources blob n answers are = rw (append-nil answers) are

pub are_bytes_of_all : AreBytesOfAll
are_bytes_of_all names sources blob n buffers are =
    let count : length buffers ≡ n = sym (counted (map Ok buffers) buffers refl) ∙ are.count in
    subst (λ m. AreBytes names sources blob m buffers) count
    (bytes_before names sources blob n buffers []
    (no_more names sources blob n (map Ok buffers) are))

pub first_error_is_that_of_all : FirstErrorIsThatOfAll
first_error_is_that_of_all names sources blob n before e after s are there =
    first_fault names sources blob (length before) before s
    [] (option_to_list (failed_name s (Err e))) e
    (bytes_before names sources blob n before (Err e ∷ after) are) there
    (are.each (length before) s (Err e) there (behind before (Err e) after))
