-- Each view has the bytes that it had.
use Rattle.std.proofs.Common.{◌≡◌, ◌≤◌, ◌+◌, ◌++◌, ℕ, List, Option, Some, None, length, take, drop}
use Rattle.std.proofs.Common.{ap, refl, subst, ◌∙◌, arith, length-append, length-drop}
use Rattle.std.proofs.Math.Seq.{drop-append-add}
use Rattle.std.proofs.lemmas.List.{take-append-le, drop-append-le}
use Rattle.std.proofs.lemmas.Option.{slice_get_within}
use Rattle.gltf_json_geometry.specs.declared.buffer.View.{View}
use Rattle.gltf_data.specs.Parts.{view_at, view_offset}
use Rattle.gltf_edit.specs.Joined.{joined}
use Rattle.gltf_moved.specs.Views.{HasBytesOf, StaysView, KeepsViews}
use Rattle.gltf_moved.proofs.Alike.{views}
use Rattle.gltf_moved.proofs.Named.{AllHold}
use Rattle.gltf_moved.proofs.Views.{Moves, MovesAt}

-- bytes that stand among others, cut out of these
among : (front bytes back whole : List ℕ) (a b long more : ℕ)
    → whole ≡ front ++ (bytes ++ back) → b ≡ length front + a → more ≡ long
    → a + long ≤ length bytes → take more (drop b whole) ≡ take long (drop a bytes)
among front bytes back whole a b long more is at same lies =
    let within : a ≤ length bytes = omega arith in
    let left = length-drop a bytes in
    let enough : long ≤ length (drop a bytes) = omega arith in
    ap (λ (n : ℕ). take n (drop b whole)) same
    ∙ ap (λ (n : ℕ). take long (drop n whole)) at
    ∙ ap (λ (xs : List ℕ). take long (drop (length front + a) xs)) is
    ∙ ap (take long) (drop-append-add front (bytes ++ back) a)
    ∙ ap (take long) (drop-append-le a bytes back within)
    ∙ take-append-le long (drop a bytes) back enough

within : (front bytes back whole : List ℕ) (a b long more : ℕ)
    → whole ≡ front ++ (bytes ++ back) → b ≡ length front + a → more ≡ long
    → a + long ≤ length bytes → b + more ≤ length whole
within front bytes back whole a b long more is at same lies =
    let whole_is = ap length is in
    let outer = length-append front (bytes ++ back) in
    let inner = length-append bytes back in
    omega arith

has_bytes : (buffers images : List (List ℕ)) (v w : View) (m : Moves buffers images v w)
    → HasBytesOf m.bytes (joined (buffers ++ images)) v w
has_bytes buffers images v w m = record {
  first = m.buffer;
  long = m.long;
  stride = m.stride;
  before = m.lies;
  after = within m.front m.bytes m.back (joined (buffers ++ images)) (view_offset v)
      (view_offset w) v.byte_length w.byte_length m.whole m.offset m.long m.lies;
  same = among m.front m.bytes m.back (joined (buffers ++ images)) (view_offset v)
      (view_offset w) v.byte_length w.byte_length m.whole m.offset m.long m.lies;
}

stays : (buffers images : List (List ℕ)) (v : View) (after : Option View)
    → MovesAt buffers images (Some v) after → StaysView buffers images v after
stays buffers images v None m = absurd m
stays buffers images v (Some w) m = record {
  view = w;
  there = refl;
  bytes = m.bytes;
  its = m.there;
  has = has_bytes buffers images v w m;
}

pub keeps_views : AllHold → KeepsViews
keeps_views law buffers images r s m i v there =
    let inside = slice_get_within r.buffer_views.items i v there in
    let moves = views buffers images r s m law i inside in
    stays buffers images v (view_at s i)
    (subst (λ o. MovesAt buffers images o (view_at s i)) there moves)
