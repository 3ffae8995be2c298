-- An image of the file that names a view, among the files.
use Rattle.std.proofs.Common.{◌≡◌, ℕ, ◌+◌, ◌≤◌, zero, suc, List, [], ◌∷◌, length, take, drop}
use Rattle.std.proofs.Common.{Option, Some, None, true, inl, inr, refl, sym, ap, subst, ◌∙◌, arith}
use Rattle.std.proofs.Common.{codes, unwrap_or}
use Rattle.std.specs.Prelude.{◌≢◌, MatchOption, option_and_then, slice_get, nat_le}
use Rattle.serde_json.specs.Data.{Data, Items, no_items, item}
use Rattle.serde_json.specs.Find.{get, get_item}
use Rattle.gltf_json.specs.Documents.{root}
use Rattle.gltf_json_geometry.specs.Buffers.{buffer_view}
use Rattle.gltf_json_geometry.specs.declared.buffer.View.{View}
use Rattle.gltf_json_scene.specs.Images.{image}
use Rattle.gltf_json_scene.specs.declared.image.Image.{Image}
use Rattle.gltf_data.specs.Parts.{view_offset}
use Rattle.gltf_detach.specs.declared.part.Part.{Part}
use Rattle.gltf_edit.specs.Bundled.{size_at, size_or_zero}
use Rattle.gltf_edit.specs.Embedded.{items_at}
use Rattle.gltf_moved.specs.RowLaws.{required_size, required_index, optional_size, optional_index}
use Rattle.gltf_moved.specs.RowLaws.{ReadsList, comes_from}
use Rattle.gltf_mended.specs.Edited.{images_left, views_left}
use Rattle.gltf_required.specs.Read.{get_read}
use Rattle.gltf_names.specs.Named.{Named}
use Rattle.gltf_buffers.specs.Names.{Names}
use Rattle.gltf_bundle.specs.declared.options.Keep.{Keep}
use Rattle.gltf_bundle.specs.declared.options.Keep.TheVariants.{Nothing, Missing, Every}
use Rattle.gltf_split.specs.Images.{AreImages, AreParts, MayBePart, IsLinked}
use Rattle.gltf_split.specs.Laws.{HasFiles}
use Rattle.gltf_split.specs.Views.{cut, view_bytes, bytes_at, bytes_in}

-- ---- the view that an image names

pub view_read : (e : Data) (x : Image) → image.is e x
    → size_at (codes "bufferView") e ≡ x.buffer_view
unfolding image
view_read e x is = optional_index (codes "bufferView") e x.buffer_view is.1.0

-- ---- the bytes of a view

cut_at : (offset long : ℕ) (bytes : List ℕ) → offset + long ≤ length bytes
    → cut offset long bytes ≡ Some (take long (drop offset bytes))
cut_at offset long bytes h =
    let fits : nat_le (offset + long) (length bytes) ≡ true = grind arith in rw fits refl

bytes_of_view : (buffers : List (List ℕ)) (d : Data) (v : View) (whole : List ℕ)
    → buffer_view.is d v → slice_get buffers v.buffer ≡ Some whole
    → view_offset v + v.byte_length ≤ length whole
    → bytes_in buffers d ≡ Some (take v.byte_length (drop (view_offset v) whole))
unfolding buffer_view
bytes_of_view buffers d v whole is there within =
    let index : size_at (codes "buffer") d ≡ Some v.buffer =
    required_index (codes "buffer") d v.buffer is.1.0 in
    let long : size_or_zero (codes "byteLength") d ≡ v.byte_length =
    ap (λ (o : Option ℕ). unwrap_or o 0)
    (required_size (codes "byteLength") d v.byte_length is.1.1.0) in
    let offset : size_or_zero (codes "byteOffset") d ≡ view_offset v =
    ap (λ (o : Option ℕ). unwrap_or o 0)
    (optional_size (codes "byteOffset") d v.byte_offset is.1.1.1.0) in
    ap (λ (o : Option ℕ).
    option_and_then (cut (size_or_zero (codes "byteOffset") d)
    (size_or_zero (codes "byteLength") d))
    (option_and_then (bytes_at buffers) o)) index
    ∙ ap (λ (o : Option (List ℕ)).
    option_and_then (cut (size_or_zero (codes "byteOffset") d)
    (size_or_zero (codes "byteLength") d)) o) there
    ∙ ap (λ (n : ℕ). cut n (size_or_zero (codes "byteLength") d) whole) offset
    ∙ ap (λ (n : ℕ). cut (view_offset v) n whole) long
    ∙ cut_at (view_offset v) v.byte_length whole within

-- ---- its file

of_some : {x y : List ℕ} → ◌≡◌ {A = Option (List ℕ)} (Some x) (Some y) → x ≡ y
of_some same = cc

module _ (keep : Keep) (names : Names) (stem : List ℕ) (buffers : List (List ℕ)) (document : Data)
    (v : ℕ) (bytes : List ℕ) (viewed : view_bytes buffers document v ≡ Some bytes) where
  abbrev HasFile : List (Option Part) → ℕ → Type 0
  HasFile ps i = (p : Part) × (slice_get ps i ≡ Some (Some p)) × (p.bytes.items ≡ bytes)

  names_none : (d : Data) → size_at (codes "bufferView") d ≡ Some v
      → size_at (codes "bufferView") d ≡ None → ⊥
  names_none d named none = cc

  no_stay : (d : Data) (k : ℕ) (lost : List Named) → keep ≢ Every
      → size_at (codes "bufferView") d ≡ Some v
      → MayBePart keep names stem buffers document k d None lost → ⊥
  no_stay d k lost kept named stays = of_keep keep kept stays where
    of_keep : (kept : Keep) → kept ≢ Every
        → MayBePart kept names stem buffers document k d None lost → ⊥
    of_keep Nothing apart stays = names_none d named stays.none.no_view
    of_keep Missing apart (inl stays) = names_none d named stays.none.no_view
    of_keep Missing apart (inr stays) = names_none d named stays.no_view
    of_keep Every apart stays = names_none d named stays.none.no_view

  here : (p : Option Part) (ps : List (Option Part)) (d : Data) (k : ℕ) (lost : List Named)
      → keep ≢ Every → size_at (codes "bufferView") d ≡ Some v
      → MayBePart keep names stem buffers document k d p lost → HasFile (p ∷ ps) 0
  here None ps d k lost kept named may = absurd (no_stay d k lost kept named may)
  here (Some p) ps d k lost kept named may =
      let has = subst (λ (o : Option ℕ).
      MatchOption o (IsLinked names d p.bytes.items)
      (λ w. view_bytes buffers document w ≡ Some p.bytes.items)) named may.0.bytes in
      (p, refl, of_some (sym has ∙ viewed))

  file_at : (ds : Items) (ps : List (Option Part)) (k i : ℕ) (lost : List Named) (d : Data)
      → keep ≢ Every → AreParts keep names stem buffers document k ds ps lost
      → get_item i ds ≡ Some d → size_at (codes "bufferView") d ≡ Some v → HasFile ps i
  file_at no_items ps k i lost d kept all there named = cc
  file_at (item e ds) [] k i lost d kept all there named = absurd all
  file_at (item e ds) (p ∷ ps) k zero lost d kept (first, rest, one, more, after) there named =
      let same : e ≡ d = cc in
      here p ps d k first kept named
      (subst (λ e. MayBePart keep names stem buffers document k e p first) same one)
  file_at (item e ds) (p ∷ ps) k (suc i) lost d kept (first, rest, one, more, after) there named =
      file_at ds ps (k + 1) i rest d kept more there named

parts_of : (keep : Keep) (names : Names) (stem : List ℕ) (buffers : List (List ℕ))
    (document : Data) (ps : List (Option Part)) (lost : List Named) → keep ≢ Every
    → AreImages keep names stem buffers document ps lost
    → AreParts keep names stem buffers document 0 (items_at (codes "images") document) ps lost
parts_of Nothing names stem buffers document ps lost kept are = are
parts_of Missing names stem buffers document ps lost kept are = are
parts_of Every names stem buffers document ps lost kept are = absurd (kept refl)

pub has_files : HasFiles
unfolding root
has_files required names path stem keep drop set is kept i x there bytes of_view =
    let records = is.source.records in
    let read = comes_from image.is (get (codes "images") is.value) is.root_.images.items i x
    (subst (λ o. ReadsList image.is o is.root_.images.items)
    (get_read required (codes "images") images_left is.value) records.1.1.1.1.1.1.1.0) there in
    let view = comes_from buffer_view.is (get (codes "bufferViews") is.value)
    is.root_.buffer_views.items of_view.index of_view.view
    (subst (λ o. ReadsList buffer_view.is o is.root_.buffer_views.items)
    (get_read required (codes "bufferViews") views_left is.value) records.1.1.1.1.1.0)
    of_view.view_there in
    let named : size_at (codes "bufferView") read.from ≡ Some of_view.index =
    view_read read.from x read.reads ∙ of_view.names_view in
    let viewed : view_bytes is.whole is.value of_view.index ≡ Some bytes =
    ap (option_and_then (bytes_in is.whole)) view.there
    ∙ bytes_of_view is.whole view.from of_view.view of_view.whole view.reads of_view.whole_there
    of_view.within
    ∙ ap (λ (b : List ℕ). Some b) (sym of_view.is_bytes) in
    file_at keep names stem is.whole is.value of_view.index bytes viewed
    (items_at (codes "images") is.value) set.images.items 0 i is.lost read.from kept
    (parts_of keep names stem is.whole is.value set.images.items is.lost kept is.images)
    read.listed named
