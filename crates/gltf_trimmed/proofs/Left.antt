-- What is left of the bytes of a view that stays: all of them.
use Rattle.std.proofs.Common.{◌≡◌, ℕ, zero, suc, ◌+◌, ◌-◌, ◌^◌, ◌<◌, ◌≤◌, List, [], ◌∷◌, ◌++◌}
use Rattle.std.proofs.Common.{length}
use Rattle.std.proofs.Common.{take, drop, get_or, slice_get, option_map, Option, Some, None, refl}
use Rattle.std.proofs.Common.{sym, ap, subst, ◌∙◌, arith, codes, unwrap_or}
use Rattle.std.proofs.lemmas.List.{take-append-drop, length-take-le}
use Rattle.serde_json.specs.Data.{Data}
use Rattle.gltf_edit.specs.Bundled.{size_at, size_or_zero}
use Rattle.gltf_edit.specs.Embedded.{items_at, count_at}
use Rattle.gltf_json.specs.Documents.{root}
use Rattle.gltf_json.specs.declared.root.Root.{Root}
use Rattle.gltf_json_geometry.specs.Buffers.{buffer, buffer_view}
use Rattle.gltf_json_geometry.specs.declared.buffer.Buffer.{Buffer}
use Rattle.gltf_json_geometry.specs.declared.buffer.View.{View}
use Rattle.gltf_data.specs.Parts.{view_offset}
use Rattle.gltf_trim.specs.Lengths.{lengths}
use Rattle.gltf_trim.specs.Marks.{staying}
use Rattle.gltf_trim.specs.Trimmed.{trimmed}
use Rattle.gltf_trimmed.specs.Laws.{cut, cut_all, AreBytesOf, IsReadOver, IsReadTrimmed}
use Rattle.gltf_trimmed.proofs.Bytes.{there_at, cut_at, cut_or, as_many_cut, padded_fours}
use Rattle.gltf_trimmed.proofs.Bytes.{padded_long, padded_is, zeros}
use Rattle.gltf_trimmed.proofs.Reached.{length_at, ends_within, lengths_less}
use Rattle.gltf_trimmed.proofs.Rows.{all_read, read_at, count_read, within, IsReadAt}
use Rattle.gltf_trimmed.proofs.Short.{short_root, short_buffer, short_at, as_many}
use Rattle.gltf_trimmed.proofs.Short.{is_short}
use Rattle.gltf_trimmed.proofs.Sizes.{required_size, required_index, optional_size}

-- the bytes of a view are the same in both, or lie in a front that both have
pub data IsLeft (v : View) (x y : Option (List ℕ)) : Type 0 where
  Whole : x ≡ y → IsLeft v x y
  Front : (front back more : List ℕ) → x ≡ Some (front ++ back) → y ≡ Some (front ++ more)
      → view_offset v + v.byte_length ≤ length front → length front < 2 ^ 64 - 1 → IsLeft v x y

record IsAt {A : Type 0} (xs : List A) (i : ℕ) : Type 0 where
  value : A
  there : slice_get xs i ≡ Some value

at : {A : Type 0} (xs : List A) (i : ℕ) → i < length xs → IsAt xs i
at [] i h = absurd (omega arith)
at (x ∷ xs) zero h = record { value = x; there = refl }
at (x ∷ xs) (suc i) h =
    let later = at xs i (omega arith) in record { value = later.value; there = later.there }

module _ (d : Data) (r : Root) (buffers : List (List ℕ)) (over : IsReadOver d r buffers) where
  abbrev n : ℕ
  n = staying d

  abbrev ls : List (Option ℕ)
  ls = lengths n d buffers

  buffer_read : (b : ℕ) (buf : Buffer) → slice_get r.buffers.items b ≡ Some buf
      → IsReadAt buffer.is (items_at (codes "buffers") d) b buf
  unfolding root
  buffer_read b buf there =
      read_at buffer.is (items_at (codes "buffers") d) r.buffers.items b buf
      (all_read buffer.is (codes "buffers") d r.buffers.items over.is.1.1.1.1.0) there

  buffer_count : count_at (codes "buffers") d ≡ length r.buffers.items
  unfolding root
  buffer_count =
      count_read buffer.is (codes "buffers") d r.buffers.items over.is.1.1.1.1.0

  view_read : (j : ℕ) (v : View) → slice_get r.buffer_views.items j ≡ Some v
      → IsReadAt buffer_view.is (items_at (codes "bufferViews") d) j v
  unfolding root
  view_read j v there =
      read_at buffer_view.is (items_at (codes "bufferViews") d) r.buffer_views.items j v
      (all_read buffer_view.is (codes "bufferViews") d r.buffer_views.items
      over.is.1.1.1.1.1.0) there

  declared : (e : Data) (buf : Buffer) → buffer.is e buf
      → size_or_zero (codes "byteLength") e ≡ buf.byte_length
  unfolding buffer
  declared e buf is =
      ap (λ (o : Option ℕ). unwrap_or o 0)
      (required_size (codes "byteLength") e buf.byte_length is.1.0)

  names_buffer : (e : Data) (v : View) → buffer_view.is e v
      → size_at (codes "buffer") e ≡ Some v.buffer
  unfolding buffer_view
  names_buffer e v is = required_index (codes "buffer") e v.buffer is.1.0

  offset_is : (e : Data) (v : View) → buffer_view.is e v
      → size_or_zero (codes "byteOffset") e ≡ view_offset v
  unfolding buffer_view
  offset_is e v is =
      ap (λ (o : Option ℕ). unwrap_or o 0)
      (optional_size (codes "byteOffset") e v.byte_offset is.1.1.1.0)

  length_is : (e : Data) (v : View) → buffer_view.is e v
      → size_or_zero (codes "byteLength") e ≡ v.byte_length
  unfolding buffer_view
  length_is e v is =
      ap (λ (o : Option ℕ). unwrap_or o 0)
      (required_size (codes "byteLength") e v.byte_length is.1.1.0)

  -- ---- the records over what is left

  left_at : (i : ℕ) (b : Buffer) → slice_get r.buffers.items i ≡ Some b → (o : Option ℕ)
      → length_at ls i ≡ o → AreBytesOf (short_buffer o b) (cut o (get_or buffers i []))
  left_at i b there None is = over.each i b there
  left_at i b there (Some l) is =
      let found = buffer_read i b there in
      let less = lengths_less n d found.value buffers i l found.there is in
      let same = declared found.value b found.is in
      let enough = (over.each i b there).long in
      record {
        long = padded_long l (get_or buffers i []) (omega (arith, less.less, same, enough));
        fours = padded_fours (take l (get_or buffers i []));
      }

  left_of : (i : ℕ) (c : Buffer) (o : Option Buffer) → slice_get r.buffers.items i ≡ o
      → option_map (short_buffer (length_at ls i)) o ≡ Some c
      → AreBytesOf c (get_or (cut_all ls buffers) i [])
  left_of i c None there is = cc
  left_of i c (Some b) there is =
      let same : short_buffer (length_at ls i) b ≡ c = cc in
      let count = over.count in
      let inside = within r.buffers.items i b there in
      let bytes = cut_or ls buffers i (omega (arith, count, inside)) in
      subst (λ (x : List ℕ). AreBytesOf c x) (sym bytes)
      (subst (λ (b : Buffer). AreBytesOf b (cut (length_at ls i) (get_or buffers i []))) same
      (left_at i b there (length_at ls i) refl))

  is_over : IsReadOver (trimmed d buffers) (short_root n ls r)
      (cut_all ls buffers)
  is_over = record {
    is = is_short n ls d r over.is;
    count =
        as_many_cut ls buffers ∙ over.count ∙ sym (as_many ls r.buffers.items);
    each =
        λ i c there.
        left_of i c (slice_get r.buffers.items i) refl
        (sym (short_at ls r.buffers.items i) ∙ there);
  }

  -- ---- the bytes of views

  module _ (j : ℕ) (v : View) (there : slice_get r.buffer_views.items j ≡ Some v) (below : j < n)
    where
      front_at : (bytes : List ℕ) → slice_get buffers v.buffer ≡ Some bytes → (l : ℕ)
          → length_at ls v.buffer ≡ Some l
          → IsLeft v (slice_get buffers v.buffer) (slice_get (cut_all ls buffers) v.buffer)
      front_at bytes is l short =
          let found = view_read j v there in
          let e = found.value in
          let count = over.count in
          let inside = within buffers v.buffer bytes is in
          let buf = at r.buffers.items v.buffer (omega (arith, count, inside)) in
          let of_buf = buffer_read v.buffer buf.value buf.there in
          let buffers_count = buffer_count in
          let less = ends_within n d e of_buf.value buffers j v.buffer l below found.there
          (names_buffer e v found.is) (omega (arith, count, inside, buffers_count)) of_buf.there
          short in
          let given = over.each v.buffer buf.value buf.there in
          let same : get_or buffers v.buffer [] ≡ bytes =
          (let both : Some (get_or buffers v.buffer []) ≡ Some bytes =
          sym (there_at buffers v.buffer inside) ∙ is in cc) in
          let enough : buf.value.byte_length ≤ length bytes =
          subst (λ (x : List ℕ). buf.value.byte_length ≤ length x) same given.long in
          let declares = declared of_buf.value buf.value of_buf.is in
          let fits : l ≤ length bytes = omega (arith, less.less, declares, enough) in
          let long = length-take-le l bytes fits in
          let begins = offset_is e v found.is in
          let goes = length_is e v found.is in
          let small = less.small in
          let reaches = less.reaches in
          Front (take l bytes) (drop l bytes) (zeros l bytes)
          (is ∙ ap (λ (x : List ℕ). Some x) (sym (take-append-drop l bytes)))
          (cut_at ls buffers v.buffer
          ∙ ap (option_map (cut (length_at ls v.buffer))) is
          ∙ ap (λ (o : Option ℕ). Some (cut o bytes)) short
          ∙ ap (λ (x : List ℕ). Some x) (padded_is l bytes))
          (omega (arith, begins, goes, long, small, reaches))
          (omega (arith, long, small))

      left_if : (bytes : List ℕ) → slice_get buffers v.buffer ≡ Some bytes → (o : Option ℕ)
          → length_at ls v.buffer ≡ o
          → IsLeft v (slice_get buffers v.buffer) (slice_get (cut_all ls buffers) v.buffer)
      left_if bytes is None short =
          Whole (is ∙ sym (cut_at ls buffers v.buffer
          ∙ ap (option_map (cut (length_at ls v.buffer))) is
          ∙ ap (λ (o : Option ℕ). Some (cut o bytes)) short))
      left_if bytes is (Some l) short = front_at bytes is l short

      left_in : (x : Option (List ℕ)) → slice_get buffers v.buffer ≡ x
          → IsLeft v (slice_get buffers v.buffer) (slice_get (cut_all ls buffers) v.buffer)
      left_in None is =
          Whole (is ∙ sym (cut_at ls buffers v.buffer
          ∙ ap (option_map (cut (length_at ls v.buffer))) is))
      left_in (Some bytes) is = left_if bytes is (length_at ls v.buffer) refl

      pub left : IsLeft v (slice_get buffers v.buffer) (slice_get (cut_all ls buffers) v.buffer)
      left = left_in (slice_get buffers v.buffer) refl

pub read_trimmed : IsReadTrimmed
read_trimmed d r buffers over =
    (short_root (staying d) (lengths (staying d) d buffers) r, is_over d r buffers over, refl)
