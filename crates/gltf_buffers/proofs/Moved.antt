-- The memory of the blob, one buffer more at a time: the steps of the loop of `read_buffers`.
use Rattle.std.proofs.Common.{ℕ, ◌≡◌, ◌<◌, ◌+◌, Bool, true, false, List, [], ◌∷◌, ◌++◌, length}
use Rattle.std.proofs.Common.{take, sym, subst, refl, inl, inr, arith, add-one, ◌∙◌}
use Rattle.std.specs.Prelude.{Option, Some, None, is_some, slice_get, ◌&&◌, Vec}
use Rattle.std.specs.List.{list_all}
use Rattle.std.specs.declared.alloc.Global.{Global}
use Rattle.std.proofs.lemmas.Bool.{cases_lt}
use Rattle.std.proofs.lemmas.List.{length-append, get_or_append_left}
use Rattle.std.proofs.lemmas.List.Folds.{list_all-append}
use Rattle.std.proofs.lemmas.Option.{slice_get_within, slice_get_read, get_or_from_slice_get}
use Rattle.std.proofs.Math.Seq.{get_or-append_seam, take-suc}
use Rattle.gltf_buffers.specs.Buffers.{Source}
use Rattle.gltf_buffers.specs.Moved.{IsHandedOn, HandsOn}
use Rattle.gltf_buffers.specs.declared.data.Data.{Data}

pub none_moved : (sources : List Source) (blob : Option (Vec ℕ Global)) → HandsOn sources blob []
none_moved sources blob = λ i source read there at first none.
    let within = slice_get_within [] i read at in absurd (omega arith)

-- of a list with one more, what stands before the last is that of the list
before_last : (all : List Data) (d read : Data) (k : ℕ) → k < length all
    → slice_get (all ++ d ∷ []) k ≡ Some read → slice_get all k ≡ Some read
before_last all d read k inside at =
    let there = get_or_from_slice_get (all ++ d ∷ []) k read read at in
    let same = get_or_append_left all (d ∷ []) read k inside in
    slice_get_read all (length all) k read refl inside (sym there ∙ same)

-- and the last one is the new one
at_last : (all : List Data) (d read : Data) → slice_get (all ++ d ∷ []) (length all) ≡ Some read
    → read ≡ d
at_last all d read at =
    sym (get_or_from_slice_get (all ++ d ∷ []) (length all) read read at)
    ∙ get_or-append_seam all d [] read

pub one_moved : (sources : List Source) (blob left : Option (Vec ℕ Global)) (i : ℕ)
    (all : List Data) (s : Source) (d : Data) → length all ≡ i → slice_get sources i ≡ Some s
    → (list_all (λ t. is_some t.uri) (take i sources) ≡ true → left ≡ blob)
    → (s.uri ≡ None → IsHandedOn left d) → HandsOn sources blob all
    → HandsOn sources blob (all ++ d ∷ [])
one_moved sources blob left i all s d count here whole moved so_far =
    λ k source read there at first none. elim (cases_lt k (length all)) [
      | inl lt ↦ so_far k source read there (before_last all d read k lt at) first none
      | inr ge ↦
          let within = slice_get_within (all ++ d ∷ []) k read at in
          let total = length-append all (d ∷ []) in
          let last : k ≡ length all = omega arith in
          let k_is : k ≡ i = last ∙ count in
          let now : slice_get (all ++ d ∷ []) (length all) ≡ Some read = rw last at at in
          let is : read ≡ d = at_last all d read now in
          let at_i : slice_get sources i ≡ Some source = rw k_is at there in
          let same : source ≡ s = cc in
          let none_here : s.uri ≡ None = rw same at none in
          let first_here : list_all (λ t. is_some t.uri) (take i sources) ≡ true =
          rw k_is at first in
          let kept : left ≡ blob = whole first_here in
          subst (λ b. IsHandedOn b read) kept
          (subst (λ r. IsHandedOn left r) (sym is) (moved none_here))
    ]

take_more : {A : Type 0} (xs : List A) (i : ℕ) (x : A) → slice_get xs i ≡ Some x
    → take (i + 1) xs ≡ take i xs ++ x ∷ []
take_more xs i x at =
    let inside = slice_get_within xs i x at in
    let there = get_or_from_slice_get xs i x x at in
    rw (add-one, take-suc xs i x inside, there) refl

both : (b c : Bool) → (b && (c && true)) ≡ true → (b ≡ true) × (c ≡ true)
both true true is = (refl, refl)
both true false is = cc
both false c is = cc

-- where all sources up to this one have a URI, those before it have, and so has it
pub all_before : (sources : List Source) (i : ℕ) (s : Source) → slice_get sources i ≡ Some s
    → list_all (λ t. is_some t.uri) (take (i + 1) sources) ≡ true
    → (list_all (λ t. is_some t.uri) (take i sources) ≡ true) × (is_some s.uri ≡ true)
all_before sources i s at is =
    both (list_all (λ t. is_some t.uri) (take i sources)) (is_some s.uri)
    (rw (
      take_more sources i s at,
      list_all-append (λ (t : Source). is_some t.uri) (take i sources) (s ∷ []),
    ) at is)
