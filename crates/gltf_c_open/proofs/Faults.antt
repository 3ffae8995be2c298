-- What is kept of one buffer more, and the first fault that refuses a file.
use Rattle.std.proofs.Common.{ℕ, ◌≡◌, ◌<◌, ◌+◌, Bool, true, false, cond, List, [], ◌∷◌, ◌++◌}
use Rattle.std.proofs.Common.{length, take, get_or, map, refl, subst, inl, inr, arith, add-one}
use Rattle.std.proofs.Common.{sym}
use Rattle.std.specs.Prelude.{Option, Some, None, is_some, slice_get, ◌&&◌}
use Rattle.std.specs.List.{list_all}
use Rattle.std.proofs.lemmas.Bool.{cases_lt}
use Rattle.std.proofs.lemmas.List.{length-append, get_or_append_left}
use Rattle.std.proofs.lemmas.List.Folds.{list_all-append}
use Rattle.std.proofs.lemmas.Option.{slice_get-map, slice_get_read, slice_get_within}
use Rattle.std.proofs.lemmas.Option.{get_or_from_slice_get}
use Rattle.std.proofs.Math.Seq.{get_or-append_seam, take-suc}
use Rattle.gltf_json_geometry.specs.declared.buffer.Buffer.{Buffer}
use Rattle.gltf_buffers.specs.Buffers.{Source, source_of, blob_for}
use Rattle.gltf_buffers.specs.ErrorLaws.{names_more}
use Rattle.gltf_c_open.specs.Buffers.{bytes_or_fault, IsKept, IsFaultOf, HaveOrAwait, HasFault}
use Rattle.gltf_c_open.specs.Refusals.{RefusedAt, IsAt}
use Rattle.gltf_c_open.specs.declared.refusal.Refusal.{Refusal}
use Rattle.gltf_c_open.specs.declared.wanted.Wanted.{Wanted}

-- a buffer's source, in the list of sources
pub source_at : (buffers : List Buffer) (i : ℕ) (b : Buffer) → i < length buffers
    → b ≡ get_or buffers i b → slice_get (map source_of buffers) i ≡ Some (source_of b)
source_at buffers i b l at = rw (
  slice_get-map source_of buffers i,
  slice_get_read buffers (length buffers) i b refl l at,
) refl

pub none_yet : (wanted : Wanted) (sources : List Source) (blob : Option (List ℕ))
    → HaveOrAwait wanted sources blob 0 [] []
none_yet wanted sources blob = record {
  count = refl;
  as_many = refl;
  each = λ i s l at. absurd (omega arith);
}

pub blob_first : (sources : List Source) (blob : Option (List ℕ)) → blob ≡ blob_for sources blob 0
unfolding blob_for
blob_first sources blob = refl

last_of : {A : Type 0} (xs : List A) (x d : A) (n : ℕ) → length xs ≡ n
    → get_or (xs ++ x ∷ []) n d ≡ x
last_of xs x d n count =
    subst (λ k. get_or (xs ++ x ∷ []) k d ≡ x) count (get_or-append_seam xs x [] d)

each_more : (wanted : Wanted) (sources : List Source) (blob : Option (List ℕ)) (i : ℕ)
    (buffers : List (List ℕ)) (waiting : List Bool) (s : Source) (d : List ℕ) (w : Bool)
    → HaveOrAwait wanted sources blob i buffers waiting → slice_get sources i ≡ Some s
    → IsKept wanted.may_wait (bytes_or_fault wanted.exact (blob_for sources blob i) i s) d w
    → (k : ℕ) (t : Source) → k < i + 1 → slice_get sources k ≡ Some t
    → IsKept wanted.may_wait (bytes_or_fault wanted.exact (blob_for sources blob k) k t)
    (get_or (buffers ++ d ∷ []) k []) (get_or (waiting ++ w ∷ []) k false)
each_more wanted sources blob i buffers waiting s d w so_far there kept k t below at =
    elim (cases_lt k i) [
      | inl lt ↦
          let inside : k < length buffers = omega (arith, so_far.count) in
          let marked : k < length waiting = omega (arith, so_far.as_many) in
          rw (
            get_or_append_left buffers (d ∷ []) [] k inside,
            get_or_append_left waiting (w ∷ []) false k marked,
          ) (so_far.each k t lt at)
      | inr ge ↦
          let e : k ≡ i = omega arith in
          let at_i : slice_get sources i ≡ Some t = rw e at at in
          let same : t ≡ s = cc in
          rw (
            e,
            same,
            last_of buffers d [] i so_far.count,
            last_of waiting w false i so_far.as_many,
          ) kept
    ]

pub one_more : (wanted : Wanted) (sources : List Source) (blob : Option (List ℕ)) (i : ℕ)
    (buffers : List (List ℕ)) (waiting : List Bool) (s : Source) (d : List ℕ) (w : Bool)
    → HaveOrAwait wanted sources blob i buffers waiting → slice_get sources i ≡ Some s
    → IsKept wanted.may_wait (bytes_or_fault wanted.exact (blob_for sources blob i) i s) d w
    → HaveOrAwait wanted sources blob (i + 1) (buffers ++ d ∷ []) (waiting ++ w ∷ [])
one_more wanted sources blob i buffers waiting s d w so_far there kept = record {
  count = rw (length-append buffers (d ∷ []), so_far.count) refl;
  as_many = rw (length-append waiting (w ∷ []), so_far.as_many) refl;
  each = each_more wanted sources blob i buffers waiting s d w so_far there kept;
}

take_more : {A : Type 0} (xs : List A) (i : ℕ) (x : A) → slice_get xs i ≡ Some x
    → take (i + 1) xs ≡ take i xs ++ x ∷ []
take_more xs i x at =
    let inside = slice_get_within xs i x at in
    let there = get_or_from_slice_get xs i x x at in
    rw (add-one, take-suc xs i x inside, there) refl

joined : (b c : Bool) (blob : Option (List ℕ))
    → cond c (cond b blob None) None ≡ cond (b && (c && true)) blob None
joined true true blob = refl
joined true false blob = refl
joined false true blob = refl
joined false false blob = refl

pub blob_next : (sources : List Source) (blob : Option (List ℕ)) (i : ℕ) (s : Source)
    → slice_get sources i ≡ Some s
    → cond (is_some s.uri) (blob_for sources blob i) None ≡ blob_for sources blob (i + 1)
unfolding blob_for
blob_next sources blob i s at =
    rw (
      take_more sources i s at,
      list_all-append (λ (t : Source). is_some t.uri) (take i sources)
          (s ∷ []),
    )
    (joined (list_all (λ t. is_some t.uri) (take i sources)) (is_some s.uri) blob)

-- the refusal by one buffer is that of all, where those before it have no fault
pub first_fault : (wanted : Wanted) (sources : List Source) (blob : Option (List ℕ)) (i : ℕ)
    (buffers : List (List ℕ)) (waiting : List Bool) (s : Source) (refusal : Refusal)
    → HaveOrAwait wanted sources blob i buffers waiting → slice_get sources i ≡ Some s
    → RefusedAt (IsAt i (IsFaultOf wanted (blob_for sources blob i) i s)) refusal
    → RefusedAt (HasFault wanted sources blob) refusal
first_fault wanted sources blob i buffers waiting s refusal so_far there (inl none) = inl none
first_fault wanted sources blob i buffers waiting s refusal so_far there (inr by_one) =
    inr (record {
      index = by_one.index;
      at = by_one.at;
      fault = names_more (IsAt i (IsFaultOf wanted (blob_for sources blob i) i s) by_one.index)
          (HasFault wanted sources blob by_one.index) refusal.error
          (λ f wrong. subst (λ k. HasFault wanted sources blob k f) (sym wrong.0) (record {
            before = buffers;
            waiting = waiting;
            fine = so_far;
            source = s;
            there = there;
            wrong = wrong.1;
          })) by_one.fault;
    })
