-- The bytes of buffers, one more at a time: the steps of the loop of `read_buffers`. Its invariant
-- has the bytes of the first i buffers (`AreBytes`), and the blob that is left for the next one. It
-- holds at the start (`none_yet`, `blob_first`). A turn adds a buffer's bytes (`one_more`, by cases
-- on whether a place is before i or is i), and keeps the blob where that buffer has a URI
-- (`blob_next`). `first_fault` is the exit with an error: the buffers before have none, so it is
-- the first one's.
use Rattle.std.proofs.Common.{ℕ, ◌≡◌, ◌<◌, ◌+◌, Bool, true, false, cond, List, [], ◌∷◌, ◌++◌}
use Rattle.std.proofs.Common.{length, take, get_or, map, refl, subst, inl, inr, arith, add-one, Ok}
use Rattle.std.proofs.Common.{Err}
use Rattle.std.specs.Prelude.{Option, Some, None, is_some, slice_get, ◌&&◌}
use Rattle.std.specs.List.{list_all}
use Rattle.std.proofs.lemmas.Bool.{cases_lt}
use Rattle.std.proofs.lemmas.List.{length-append, get_or_append_left}
use Rattle.std.proofs.lemmas.List.Folds.{list_all-append}
use Rattle.std.proofs.lemmas.Option.{slice_get-map, slice_get_read, slice_get_within}
use Rattle.std.proofs.lemmas.Option.{get_or_from_slice_get}
use Rattle.std.proofs.Math.Seq.{get_or-append_seam, take-suc}
use Rattle.gltf_buffers.specs.Buffers.{Source, source_of, BufferFault, IsBytesOf, LeadsTo}
use Rattle.gltf_buffers.specs.Buffers.{blob_for, AreBytes, HasBufferFault, IsAskedFor}
use Rattle.gltf_json_geometry.specs.declared.buffer.Buffer.{Buffer}
use Rattle.gltf_buffers.specs.Errors.{FailsOrNames}
use Rattle.gltf_buffers.specs.ErrorLaws.{names_more}
use Rattle.gltf_buffers.specs.Names.{Names}
use Rattle.gltf_names.specs.Named.{Named}
use Rattle.gltf_glb.specs.declared.error.Error.{Error}
use Rattle.gltf_glb.specs.declared.error.Error.TheVariants as error

-- a buffer's source, in the list of sources
pub source_at : (buffers : List Buffer) (i : ℕ) (b : Buffer) → i < length buffers
    → b ≡ get_or buffers i b → slice_get (map source_of buffers) i ≡ Some (source_of b)
source_at buffers i b l at = rw (
  slice_get-map source_of buffers i,
  slice_get_read buffers (length buffers) i b refl l at,
) refl

pub none_yet : (names : Names) (sources : List Source) (blob : Option (List ℕ)) →
    AreBytes names sources blob 0 []
none_yet names sources blob = record { count = refl; each = λ i s l at. absurd (omega arith) }

pub blob_first : (sources : List Source) (blob : Option (List ℕ)) → blob ≡ blob_for sources blob 0
unfolding blob_for
blob_first sources blob = refl

each_more : (names : Names) (sources : List Source) (blob : Option (List ℕ)) (i : ℕ)
    (data_ : List (List ℕ)) (s : Source) (d : List ℕ)
    → AreBytes names sources blob i data_ → slice_get sources i ≡ Some s
    → IsBytesOf names (blob_for sources blob i) i s (Ok d)
    → (k : ℕ) (t : Source) → k < i + 1 → slice_get sources k ≡ Some t
    → IsBytesOf names (blob_for sources blob k) k t (Ok (get_or (data_ ++ d ∷ []) k []))
each_more names sources blob i data_ s d so_far there read k t below at = elim (cases_lt k i) [
  | inl lt ↦
      let inside : k < length data_ = omega (arith, so_far.count) in
      rw (get_or_append_left data_ (d ∷ []) [] k inside) (so_far.each k t lt at)
  | inr ge ↦
      let e : k ≡ i = omega arith in
      let at_i : slice_get sources i ≡ Some t = rw e at at in
      let same : t ≡ s = cc in
      let last : get_or (data_ ++ d ∷ []) i [] ≡ d =
      subst (λ n. get_or (data_ ++ d ∷ []) n [] ≡ d) so_far.count
      (get_or-append_seam data_ d [] []) in
      rw (e, same, last) read
]

pub one_more : (names : Names) (sources : List Source) (blob : Option (List ℕ)) (i : ℕ)
    (data_ : List (List ℕ)) (s : Source) (d : List ℕ)
    → AreBytes names sources blob i data_ → slice_get sources i ≡ Some s
    → IsBytesOf names (blob_for sources blob i) i s (Ok d)
    → AreBytes names sources blob (i + 1) (data_ ++ d ∷ [])
one_more names sources blob i data_ s d so_far there read = record {
  count = rw (length-append data_ (d ∷ []), so_far.count) refl;
  each = each_more names sources blob i data_ s d so_far there read;
}

take_more : {A : Type 0} (xs : List A) (i : ℕ) (x : A) → slice_get xs i ≡ Some x
    → take (i + 1) xs ≡ take i xs ++ x ∷ []
take_more xs i x at =
    let inside = slice_get_within xs i x at in
    let there = get_or_from_slice_get xs i x x at in
    rw (add-one, take-suc xs i x inside, there) refl

joined : (b c : Bool) (blob : Option (List ℕ))
    → cond c (cond b blob None) None ≡ cond (b && (c && true)) blob None
joined true true blob = refl
joined true false blob = refl
joined false true blob = refl
joined false false blob = refl

pub blob_next : (sources : List Source) (blob : Option (List ℕ)) (i : ℕ) (s : Source)
    → slice_get sources i ≡ Some s
    → cond (is_some s.uri) (blob_for sources blob i) None ≡ blob_for sources blob (i + 1)
unfolding blob_for
blob_next sources blob i s at =
    rw (
      take_more sources i s at,
      list_all-append (λ (t : Source). is_some t.uri) (take i sources)
          (s ∷ []),
    )
    (joined (list_all (λ t. is_some t.uri) (take i sources)) (is_some s.uri) blob)

-- ---- what an error says

fails_more : (P P' : BufferFault → Type 0) (Q Q' : Named → Type 0) (old new : List Named)
    (e : Error) → ((f : BufferFault) → P f → P' f) → ((n : Named) → Q n → Q' n)
    → FailsOrNames P Q old new e → FailsOrNames P' Q' old new e
fails_more P P' Q Q' old new (error.Io cause) more asks told =
    (told.0, asks told.0 told.1, told.2)
fails_more P P' Q Q' old new error.Memory more asks told = told
fails_more P P' Q Q' old new e more asks told = (told.0, names_more P P' e more told.1)

-- the fault of a buffer, or the name that it leads to, where those before it have no fault
pub first_fault : (names : Names) (sources : List Source) (blob : Option (List ℕ)) (i : ℕ)
    (data_ : List (List ℕ)) (s : Source) (old new : List Named) (e : Error)
    → AreBytes names sources blob i data_ → slice_get sources i ≡ Some s
    → FailsOrNames (λ f. IsBytesOf names (blob_for sources blob i) i s (Err f))
    (LeadsTo names s.uri) old new e
    → FailsOrNames (HasBufferFault names sources blob) (IsAskedFor names sources blob) old new e
first_fault names sources blob i data_ s old new e so_far there told =
    fails_more (λ f. IsBytesOf names (blob_for sources blob i) i s (Err f))
    (HasBufferFault names sources blob) (LeadsTo names s.uri) (IsAskedFor names sources blob)
    old new e
    (λ f wrong. record {
      index = i;
      before = data_;
      fine = so_far;
      source = s;
      there = there;
      wrong = wrong;
    })
    (λ n leads. record {
      index = i;
      before = data_;
      fine = so_far;
      source = s;
      there = there;
      leads = leads;
    }) told
