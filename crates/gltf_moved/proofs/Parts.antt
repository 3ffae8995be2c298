-- The parts of an accessor, over the buffers and over the one buffer.
use Rattle.std.proofs.Common.{◌≡◌, ℕ, ◌+◌, ◌-◌, ◌*◌, ◌<◌, ◌≤◌, List, [], ◌∷◌, ◌++◌, length}
use Rattle.std.proofs.Common.{drop, Option, Some, None, refl, sym, ap, subst, ◌∙◌, arith}
use Rattle.std.proofs.Common.{length-append, unwrap_or}
use Rattle.std.proofs.Math.Nat.{mul-le-mul_left}
use Rattle.std.specs.Prelude.{slice_get, option_map}
use Rattle.gltf_json_geometry.specs.declared.buffer.View.{View}
use Rattle.gltf_handles.specs.Members.{above_zero}
use Rattle.gltf_items.specs.Reading.{ReadsFront}
use Rattle.gltf_data.specs.Parts.{Part, part_of, stride, view_offset, address, Fits, FitsIn}
use Rattle.gltf_data.specs.Parts.{addressed, items_in, PartReadable, BaseReadable, part_items}
use Rattle.gltf_data.specs.Parts.{base_items}
use Rattle.gltf_data.specs.Answers.{answer_for}
use Rattle.gltf_edit.specs.Joined.{joined}
use Rattle.gltf_moved.specs.Laws.{one_list}
use Rattle.gltf_moved.proofs.Bytes.{value_among, same_below}
use Rattle.gltf_moved.proofs.Views.{Moves, MovesAt}

one_there : (buffers images : List (List ℕ)) → 0 < length buffers
    → slice_get (one_list (buffers ++ images)) 0 ≡ Some (joined (buffers ++ images))
one_there [] images some = absurd (omega arith)
one_there (first ∷ more) images some = refl

module _ (buffers images : List (List ℕ)) (v w : View) (m : Moves buffers images v w)
    (o n size : ℕ) where
  abbrev all : List (List ℕ)
  all = buffers ++ images

  length_of_whole : length (joined all) ≡ length m.front + (length m.bytes + length m.back)
  length_of_whole =
      ap (λ (xs : List ℕ). length xs) m.whole
      ∙ length-append m.front (m.bytes ++ m.back)
      ∙ ap (λ (k : ℕ). length m.front + k) (length-append m.bytes m.back)

  same_stride : stride w size ≡ stride v size
  same_stride = ap (λ (b : Option ℕ). unwrap_or (above_zero b) size) m.stride

  fits_after : Fits (part_of v o n size) m.bytes → Fits (part_of w o n size) (joined all)
  fits_after fits =
      let long = m.long in
      let offset = m.offset in
      let lies = m.lies in
      record {
        some = fits.some;
        apart = subst (λ (k : ℕ). size ≤ k) (sym same_stride) fits.apart;
        view_within = omega (arith, length_of_whole);
        items_within =
            subst (λ (k : ℕ). o + k * (n - 1) + size ≤ w.byte_length) (sym same_stride)
            (subst (λ (k : ℕ). o + stride v size * (n - 1) + size ≤ k) (sym long)
            fits.items_within);
      }

  fits_before : Fits (part_of w o n size) (joined all) → Fits (part_of v o n size) m.bytes
  fits_before fits = record {
    some = fits.some;
    apart = subst (λ (k : ℕ). size ≤ k) same_stride fits.apart;
    view_within = m.lies;
    items_within =
        subst (λ (k : ℕ). o + k * (n - 1) + size ≤ v.byte_length) same_stride
        (subst (λ (k : ℕ). o + stride w size * (n - 1) + size ≤ k) m.long fits.items_within);
  }

  -- an item fits in all bytes
  size_fits : Fits (part_of v o n size) m.bytes → size ≤ length (joined all)
  size_fits fits =
      let items = fits.items_within in
      let view = fits.view_within in
      omega (arith, length_of_whole)

  address_after : (i : ℕ)
      → address (part_of w o n size) i ≡ length m.front + address (part_of v o n size) i
  address_after i =
      let offset = m.offset in
      ap (λ (k : ℕ). view_offset w + o + i * k) same_stride ∙ omega arith

  items_after : {X : Type 0} (value : List ℕ → X) → ReadsFront size value
      → Fits (part_of v o n size) m.bytes
      → addressed value (part_of v o n size) m.bytes
      ≡ addressed value (part_of w o n size) (joined all)
  unfolding addressed
  items_after value reads fits =
      same_below (λ i. value (drop (address (part_of v o n size) i) m.bytes))
      (λ i. value (drop (address (part_of w o n size) i) (joined all))) 0 n
      (λ i h.
      let items = fits.items_within in
      let view = fits.view_within in
      let far : stride v size * i ≤ stride v size * (n - 1) =
      mul-le-mul_left (stride v size) (omega arith) in
      sym (ap (λ (xs : List ℕ). value (drop (address (part_of w o n size) i) xs)) m.whole
      ∙ ap (λ (k : ℕ). value (drop k (m.front ++ (m.bytes ++ m.back)))) (address_after i)
      ∙ value_among size value reads m.front m.bytes m.back (address (part_of v o n size) i)
      (omega arith)))

  answer_after : slice_get (one_list all) w.buffer ≡ Some (joined all)
  answer_after =
      ap (slice_get (one_list all)) m.buffer ∙ one_there buffers images m.some

  ready_after : FitsIn (part_of v o n size) (slice_get buffers v.buffer)
      → FitsIn (part_of w o n size) (slice_get (one_list all) w.buffer)
  ready_after fits =
      subst (FitsIn (part_of w o n size)) (sym answer_after)
      (fits_after (subst (FitsIn (part_of v o n size)) m.there fits))

  ready_before : FitsIn (part_of w o n size) (slice_get (one_list all) w.buffer)
      → FitsIn (part_of v o n size) (slice_get buffers v.buffer)
  ready_before fits =
      subst (FitsIn (part_of v o n size)) (sym m.there)
      (fits_before (subst (FitsIn (part_of w o n size)) answer_after fits))

  in_after : {X : Type 0} (value : List ℕ → X)
      → (size ≤ length (joined all) → ReadsFront size value)
      → FitsIn (part_of v o n size) (slice_get buffers v.buffer)
      → items_in value (part_of v o n size) (slice_get buffers v.buffer)
      ≡ items_in value (part_of w o n size) (slice_get (one_list all) w.buffer)
  in_after value reads fits =
      let fit = subst (FitsIn (part_of v o n size)) m.there fits in
      ap (items_in value (part_of v o n size)) m.there
      ∙ items_after value (reads (size_fits fit)) fit
      ∙ ap (items_in value (part_of w o n size)) (sym answer_after)

-- ---- a part that may be absent

abbrev pub part_at : Option View → ℕ → ℕ → ℕ → Option Part
part_at x o n size = option_map (λ v. part_of v o n size) x

abbrev pub Ready : List (List ℕ) → Option Part → Type 0
Ready buffers p = PartReadable p (answer_for (slice_get buffers) p)

abbrev pub BaseReady : List (List ℕ) → ℕ → Option Part → Type 0
BaseReady buffers count p = BaseReadable count p (answer_for (slice_get buffers) p)

module _ (buffers images : List (List ℕ)) (o n size : ℕ) where
  abbrev whole : List (List ℕ)
  whole = buffers ++ images

  pub part_after : (x y : Option View) → MovesAt buffers images x y
      → Ready buffers (part_at x o n size) → Ready (one_list whole) (part_at y o n size)
  part_after None None m ready = ready
  part_after None (Some w) m ready = absurd m
  part_after (Some v) None m ready = absurd m
  part_after (Some v) (Some w) m ready = ready_after buffers images v w m o n size ready

  pub part_before : (x y : Option View) → MovesAt buffers images x y
      → Ready (one_list whole) (part_at y o n size) → Ready buffers (part_at x o n size)
  part_before None None m ready = ready
  part_before None (Some w) m ready = absurd m
  part_before (Some v) None m ready = absurd m
  part_before (Some v) (Some w) m ready = ready_before buffers images v w m o n size ready

  pub base_after : (count : ℕ) (x y : Option View) → MovesAt buffers images x y
      → BaseReady buffers count (part_at x o n size)
      → BaseReady (one_list whole) count (part_at y o n size)
  base_after count None None m ready = ready
  base_after count None (Some w) m ready = absurd m
  base_after count (Some v) None m ready = absurd m
  base_after count (Some v) (Some w) m ready = ready_after buffers images v w m o n size ready

  pub base_before : (count : ℕ) (x y : Option View) → MovesAt buffers images x y
      → BaseReady (one_list whole) count (part_at y o n size)
      → BaseReady buffers count (part_at x o n size)
  base_before count None None m ready = ready
  base_before count None (Some w) m ready = absurd m
  base_before count (Some v) None m ready = absurd m
  base_before count (Some v) (Some w) m ready = ready_before buffers images v w m o n size ready

  module _ {X : Type 0} (value : List ℕ → X)
      (reads : size ≤ length (joined whole) → ReadsFront size value) where
    pub part_same : (x y : Option View) → MovesAt buffers images x y
        → Ready buffers (part_at x o n size)
        → part_items value (part_at x o n size)
        (answer_for (slice_get buffers) (part_at x o n size))
        ≡ part_items value (part_at y o n size)
        (answer_for (slice_get (one_list whole)) (part_at y o n size))
    part_same None None m ready = refl
    part_same None (Some w) m ready = absurd m
    part_same (Some v) None m ready = absurd m
    part_same (Some v) (Some w) m ready = in_after buffers images v w m o n size value reads ready

    pub base_same : (count : ℕ) (x y : Option View) → MovesAt buffers images x y
        → BaseReady buffers count (part_at x o n size)
        → base_items value (part_at x o n size)
        (answer_for (slice_get buffers) (part_at x o n size))
        ≡ base_items value (part_at y o n size)
        (answer_for (slice_get (one_list whole)) (part_at y o n size))
    base_same count None None m ready = refl
    base_same count None (Some w) m ready = absurd m
    base_same count (Some v) None m ready = absurd m
    base_same count (Some v) (Some w) m ready =
        ap (λ x. Some x) (in_after buffers images v w m o n size value reads ready)
