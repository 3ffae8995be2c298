-- The sources of buffers, and the blob that is left for the next one.
use Rattle.std.proofs.Common.{ℕ, ◌≡◌, ◌<◌, ◌+◌, Bool, true, false, cond, List, [], ◌∷◌, ◌++◌}
use Rattle.std.proofs.Common.{length, take, get_or, map, refl, add-one}
use Rattle.std.specs.Prelude.{Option, Some, None, is_some, slice_get, ◌&&◌}
use Rattle.std.specs.List.{list_all}
use Rattle.std.proofs.lemmas.List.Folds.{list_all-append}
use Rattle.std.proofs.lemmas.Option.{slice_get-map, slice_get_read, slice_get_within}
use Rattle.std.proofs.lemmas.Option.{get_or_from_slice_get}
use Rattle.std.proofs.Math.Seq.{take-suc}
use Rattle.gltf_buffers.specs.Buffers.{Source, source_of, blob_for}
use Rattle.gltf_json_geometry.specs.declared.buffer.Buffer.{Buffer}

-- a buffer's source, in the list of sources
pub source_at : (buffers : List Buffer) (i : ℕ) (b : Buffer) → i < length buffers
    → b ≡ get_or buffers i b → slice_get (map source_of buffers) i ≡ Some (source_of b)
source_at buffers i b l at = rw (
  slice_get-map source_of buffers i,
  slice_get_read buffers (length buffers) i b refl l at,
) refl

pub blob_first : (sources : List Source) (blob : Option (List ℕ)) → blob ≡ blob_for sources blob 0
unfolding blob_for
blob_first sources blob = refl

take_more : {A : Type 0} (xs : List A) (i : ℕ) (x : A) → slice_get xs i ≡ Some x
    → take (i + 1) xs ≡ take i xs ++ x ∷ []
take_more xs i x at =
    let inside = slice_get_within xs i x at in
    let there = get_or_from_slice_get xs i x x at in
    rw (add-one, take-suc xs i x inside, there) refl

joined : (b c : Bool) (blob : Option (List ℕ))
    → cond c (cond b blob None) None ≡ cond (b && (c && true)) blob None
joined true true blob = refl
joined true false blob = refl
joined false true blob = refl
joined false false blob = refl

pub blob_next : (sources : List Source) (blob : Option (List ℕ)) (i : ℕ) (s : Source)
    → slice_get sources i ≡ Some s
    → cond (is_some s.uri) (blob_for sources blob i) None ≡ blob_for sources blob (i + 1)
unfolding blob_for
blob_next sources blob i s at =
    rw (
      take_more sources i s at,
      list_all-append (λ (t : Source). is_some t.uri) (take i sources)
          (s ∷ []),
    )
    (joined (list_all (λ t. is_some t.uri) (take i sources)) (is_some s.uri) blob)
