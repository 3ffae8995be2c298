-- The views of a document whose buffers became one.
use Rattle.std.proofs.Common.{◌≡◌, ℕ, zero, suc, ◌+◌, ◌≤◌, List, [], ◌∷◌, ◌++◌, length, Option}
use Rattle.std.proofs.Common.{Some, None, refl, sym, ap, ◌∙◌, arith, codes, unwrap_or, subst, ◌<◌}
use Rattle.std.specs.Prelude.{MatchOption, IsSome, slice_get, option_map, option_and_then, ⊤}
use Rattle.serde_json.specs.Data.{Data, null, boolean, number, string, array, object, unsigned}
use Rattle.serde_json.specs.Data.{Items, no_items, item}
use Rattle.serde_json.specs.Find.{get, as_array, as_object, as_number, as_u64}
use Rattle.gltf_json_record.specs.Items.{AllRead}
use Rattle.gltf_json_record.specs.Member.{unless_null}
use Rattle.gltf_json_geometry.specs.Buffers.{buffer_view}
use Rattle.gltf_json_geometry.specs.declared.buffer.View.{View}
use Rattle.gltf_data.specs.Parts.{view_offset}
use Rattle.gltf_edit.specs.Joined.{joined, spans_from}
use Rattle.gltf_edit.specs.JoinedLaws.{stands}
use Rattle.gltf_edit.specs.Bundled.{Lies, LiesIn, AllPlaced, EachPlaced, moved, mapped}
use Rattle.gltf_edit.specs.Bundled.{span_of, size_at, size_or_zero, each_item, bundled}
use Rattle.gltf_edit.specs.BundledLaws.{differ, moved_buffer, moved_offset, moved_other}
use Rattle.gltf_edit.specs.BundledLaws.{bundled_views, bundled_no_views}
use Rattle.gltf_edit.specs.Embedded.{embedded, with_items}
use Rattle.gltf_edit.specs.EmbeddedLaws.{object_embedded, longer, longer_list, longer_views}
use Rattle.gltf_edit.specs.EmbeddedLaws.{more_views}
use Rattle.gltf_edit.specs.declared.picture.Picture.{Picture}
use Rattle.gltf_edit.specs.declared.span.Span.{Span}
use Rattle.gltf_moved.specs.RowLaws.{required_size, required_index, optional_size}

-- w is the view v in the one buffer, where its own is among these
pub record Moves (buffers images : List (List ℕ)) (v w : View) : Type 0 where
  pub bytes : List ℕ
  pub front : List ℕ
  pub back : List ℕ
  pub there : slice_get buffers v.buffer ≡ Some bytes
  pub some : 0 < length buffers
  pub whole : joined (buffers ++ images) ≡ front ++ (bytes ++ back)
  pub buffer : w.buffer ≡ 0
  pub offset : view_offset w ≡ length front + view_offset v
  pub long : w.byte_length ≡ v.byte_length
  pub stride : w.byte_stride ≡ v.byte_stride
  pub lies : view_offset v + v.byte_length ≤ length bytes

-- so are both, or neither is there
abbrev pub MovesAt : List (List ℕ) → List (List ℕ) → Option View → Option View → Type 0
MovesAt buffers images None None = ⊤
MovesAt buffers images None (Some w) = ⊥
MovesAt buffers images (Some v) None = ⊥
MovesAt buffers images (Some v) (Some w) = Moves buffers images v w

-- those in front of more
front_get : {A : Type 0} (xs ys : List A) (i : ℕ) → i < length xs
    → slice_get (xs ++ ys) i ≡ slice_get xs i
front_get [] ys i h = absurd (omega arith)
front_get (x ∷ xs) ys zero h = refl
front_get (x ∷ xs) ys (suc i) h = front_get xs ys i (omega arith)

pub size_of : (name : List ℕ) (d e : Data) → get name d ≡ get name e
    → size_at name d ≡ size_at name e
size_of name d e same = ap (λ o. option_and_then as_u64 (option_and_then as_number o)) same

pub size_is : (name : List ℕ) (d : Data) (n : ℕ) → get name d ≡ Some (number (unsigned n))
    → size_at name d ≡ Some n
size_is name d n same = ap (λ o. option_and_then as_u64 (option_and_then as_number o)) same

pub of_some : {m n : ℕ} → ◌≡◌ {A = Option ℕ} (Some m) (Some n) → m ≡ n
of_some same = cc

module _ (buffers images : List (List ℕ)) (e : Data) (v w : View) (is : buffer_view.is e v)
    (is_after : buffer_view.is (moved (spans_from 0 (buffers ++ images)) e) w)
    (named : v.buffer < length buffers) where
  moves_at : (s : Span) → span_of (spans_from 0 (buffers ++ images)) e ≡ Some s → LiesIn e s
      → Moves buffers images v w
  unfolding buffer_view
  moves_at s there lies =
      let all = buffers ++ images in
      let spans = spans_from 0 all in
      let index : size_at (codes "buffer") e ≡ Some v.buffer =
      required_index (codes "buffer") e v.buffer is.1.0 in
      let at : slice_get spans v.buffer ≡ Some s =
      sym (ap (option_and_then (slice_get spans)) index) ∙ there in
      let stand = stands 0 all v.buffer s at in
      let length_of : size_at (codes "byteLength") e ≡ Some v.byte_length =
      required_size (codes "byteLength") e v.byte_length is.1.1.0 in
      let offset_of : size_at (codes "byteOffset") e ≡ v.byte_offset =
      optional_size (codes "byteOffset") e v.byte_offset is.1.1.1.0 in
      let stride_of : size_at (codes "byteStride") e ≡ v.byte_stride =
      optional_size (codes "byteStride") e v.byte_stride is.1.1.1.1.0 in
      let begins : size_or_zero (codes "byteOffset") e ≡ view_offset v =
      ap (λ (o : Option ℕ). unwrap_or o 0) offset_of in
      let goes : size_or_zero (codes "byteLength") e ≡ v.byte_length =
      ap (λ (o : Option ℕ). unwrap_or o 0) length_of in
      let moves = size_is (codes "byteOffset") (moved spans e) _
      (moved_offset spans e s is.0 there) in
      let offset_after = optional_size (codes "byteOffset") (moved spans e) w.byte_offset
      is_after.1.1.1.0 in
      let begins_after : s.place + size_or_zero (codes "byteOffset") e ≡ view_offset w =
      ap (λ (o : Option ℕ). unwrap_or o 0) (sym moves ∙ offset_after) in
      let stay = moved_other spans e s is.0 there in
      let place = stand.place in
      let long = stand.long in
      record {
        bytes = stand.bytes;
        front = stand.front;
        back = stand.back;
        there = sym (front_get buffers images v.buffer named) ∙ stand.there;
        some = omega arith;
        whole = stand.whole;
        buffer =
            of_some (sym (required_index (codes "buffer") (moved spans e) w.buffer is_after.1.0)
            ∙ size_is (codes "buffer") (moved spans e) 0 (moved_buffer spans e s is.0 there));
        offset = omega arith;
        long =
            of_some (sym (required_size (codes "byteLength") (moved spans e) w.byte_length
            is_after.1.1.0)
            ∙ size_of (codes "byteLength") (moved spans e) e
            (stay (codes "byteLength") (differ _ _ refl) (differ _ _ refl) (differ _ _ refl))
            ∙ length_of);
        stride =
            sym (optional_size (codes "byteStride") (moved spans e) w.byte_stride
            is_after.1.1.1.1.0)
            ∙ size_of (codes "byteStride") (moved spans e) e
            (stay (codes "byteStride") (differ _ _ refl) (differ _ _ refl) (differ _ _ refl))
            ∙ stride_of;
        lies = omega arith;
      }

  moves_if : (o : Option Span) → span_of (spans_from 0 (buffers ++ images)) e ≡ o
      → MatchOption o ⊥ (LiesIn e) → Moves buffers images v w
  moves_if None there lies = absurd lies
  moves_if (Some s) there lies = moves_at s there lies

  pub moves : Lies (spans_from 0 (buffers ++ images)) e → Moves buffers images v w
  moves lies = moves_if (span_of (spans_from 0 (buffers ++ images)) e) refl lies

module _ (buffers images : List (List ℕ)) where
  abbrev spans : List Span
  spans = spans_from 0 (buffers ++ images)

  -- the views in front of more
  each_moves : (ds more : Items) (vs ws : List View) → AllRead buffer_view.is ds vs
      → AllRead buffer_view.is (mapped (moved spans) (with_items ds more)) ws
      → AllPlaced spans (with_items ds more)
      → ((k : ℕ) (v : View) → slice_get vs k ≡ Some v → v.buffer < length buffers)
      → (i : ℕ) → i < length vs → MovesAt buffers images (slice_get vs i) (slice_get ws i)
  each_moves no_items more [] ws is after placed named i h = absurd (omega arith)
  each_moves no_items more (v ∷ vs) ws is after placed named i h = absurd is
  each_moves (item d ds) more [] ws is after placed named i h = absurd is
  each_moves (item d ds) more (v ∷ vs) [] is after placed named i h = absurd after
  each_moves (item d ds) more (v ∷ vs) (w ∷ ws) is after placed named zero h =
      moves buffers images d v w is.0 after.0 (named 0 v refl) placed.0.alone
  each_moves (item d ds) more (v ∷ vs) (w ∷ ws) is after placed named (suc i) h =
      each_moves ds more vs ws is.1 after.1 placed.1 (λ k v there. named (suc k) v there) i
      (omega arith)

  none_move : (vs ws : List View) → vs ≡ [] → (i : ℕ) → i < length vs
      → MovesAt buffers images (slice_get vs i) (slice_get ws i)
  none_move [] ws none i h = absurd (omega arith)
  none_move (v ∷ vs) ws none i h = cc

-- what a row reads as a list of views
abbrev pub ReadsViews : Option Data → List View → Type 0
ReadsViews o vs = MatchOption (option_and_then unless_null o) (vs ≡ [])
    (λ e. MatchOption (as_array e) ⊥ (λ ds. AllRead buffer_view.is ds vs))

pub views_move : (buffers images : List (List ℕ)) (o : Option Data) (more : Items)
    (vs ws : List View) → ReadsViews o vs
    → ReadsViews (option_map (each_item (moved (spans_from 0 (buffers ++ images)))) (longer more o))
    ws
    → MatchOption (longer more o) ⊤ (EachPlaced (spans_from 0 (buffers ++ images)))
    → ((k : ℕ) (v : View) → slice_get vs k ≡ Some v → v.buffer < length buffers)
    → (i : ℕ) → i < length vs → MovesAt buffers images (slice_get vs i) (slice_get ws i)
views_move buffers images None more vs ws is after placed named i h =
    none_move buffers images vs ws is i h
views_move buffers images (Some null) more vs ws is after placed named i h =
    none_move buffers images vs ws is i h
views_move buffers images (Some (boolean b)) more vs ws is after placed named i h = absurd is
views_move buffers images (Some (number n)) more vs ws is after placed named i h = absurd is
views_move buffers images (Some (string s)) more vs ws is after placed named i h = absurd is
views_move buffers images (Some (array ds)) more vs ws is after placed named i h =
    let spans = spans_from 0 (buffers ++ images) in
    each_moves buffers images ds more vs ws is
    (subst (λ o. ReadsViews (option_map (each_item (moved spans)) o) ws) (longer_list ds more)
    after)
    (subst (λ o. MatchOption o ⊤ (EachPlaced spans)) (longer_list ds more) placed) named i h
views_move buffers images (Some (object ms)) more vs ws is after placed named i h = absurd is

after_at : (spans : List Span) (total : ℕ) (d : Data) (o : Option Data) → IsSome (as_object d)
    → get (codes "bufferViews") d ≡ o
    → get (codes "bufferViews") (bundled spans total d) ≡ option_map (each_item (moved spans)) o
after_at spans total d None is there = bundled_no_views spans total d there
after_at spans total d (Some e) is there = bundled_views spans total d e is there

pub views_after : (spans : List Span) (total : ℕ) (ps : List (Option Picture)) (d : Data)
    → IsSome (as_object d)
    → get (codes "bufferViews") (bundled spans total (embedded ps d))
    ≡ option_map (each_item (moved spans))
    (longer (more_views ps d) (get (codes "bufferViews") d))
views_after spans total ps d is =
    after_at spans total (embedded ps d) (get (codes "bufferViews") (embedded ps d))
    (object_embedded ps d is) refl
    ∙ ap (option_map (each_item (moved spans))) (longer_views ps d is)
