-- Laws of the members of a value after an edit.
use Rattle.std.proofs.Common.{◌≡◌, ℕ, ◌+◌, List, Option, Some, None, false, bytes_eq}
use Rattle.std.proofs.Common.{option_map, true≢false, refl, sym, ap, ◌∙◌, codes, unwrap_or}
use Rattle.std.proofs.lemmas.Slice.Eq.{bytes_eq-Decides}
use Rattle.std.specs.Prelude.{IsSome}
use Rattle.serde_json.specs.Data.{Data, null, boolean, number, string, array, object}
use Rattle.serde_json.specs.Find.{get, as_object}
use Rattle.serde_json.proofs.Views.{get_member-put, get_member-put_other}
use Rattle.gltf_edit.specs.Bundled.{with_member, with_some, placed, whole, size_or_zero, moved}
use Rattle.gltf_edit.specs.Bundled.{relocated, relocated_extensions, span_of, bundled}
use Rattle.gltf_edit.specs.Bundled.{each_item, buffers_after, views_after}
use Rattle.gltf_edit.specs.declared.span.Span.{Span}

pub differ : (xs ys : List ℕ) → bytes_eq xs ys ≡ false → xs ≡ ys → ⊥
differ xs ys other same = true≢false (sym ((bytes_eq-Decides xs ys).1 same) ∙ other)

-- ---- with a member

pub object_with : (k : List ℕ) (e d : Data) → IsSome (as_object d)
    → IsSome (as_object (with_member k e d))
object_with k e null is = is
object_with k e (boolean b) is = is
object_with k e (number n) is = is
object_with k e (string s) is = is
object_with k e (array ds) is = is
object_with k e (object ms) is = refl

pub get_with : (k : List ℕ) (e d : Data) → IsSome (as_object d)
    → get k (with_member k e d) ≡ Some e
get_with k e null is = cc
get_with k e (boolean b) is = cc
get_with k e (number n) is = cc
get_with k e (string s) is = cc
get_with k e (array ds) is = cc
get_with k e (object ms) is = get_member-put k e ms

pub get_with_other : (q k : List ℕ) (e d : Data) → (q ≡ k → ⊥)
    → get q (with_member k e d) ≡ get q d
get_with_other q k e null apart = refl
get_with_other q k e (boolean b) apart = refl
get_with_other q k e (number n) apart = refl
get_with_other q k e (string s) apart = refl
get_with_other q k e (array ds) apart = refl
get_with_other q k e (object ms) apart = get_member-put_other q k e ms apart

pub object_with_some : (k : List ℕ) (o : Option Data) (d : Data) → IsSome (as_object d)
    → IsSome (as_object (with_some k o d))
object_with_some k None d is = is
object_with_some k (Some e) d is = object_with k e d is

pub get_with_some_other : (q k : List ℕ) (o : Option Data) (d : Data) → (q ≡ k → ⊥)
    → get q (with_some k o d) ≡ get q d
get_with_some_other q k None d apart = refl
get_with_some_other q k (Some e) d apart = get_with_other q k e d apart

-- what a member was, with f of it in its place
pub get_changed : (k : List ℕ) (f : Data → Data) (d e : Data) → IsSome (as_object d)
    → get k d ≡ Some e → get k (with_some k (option_map f (get k d)) d) ≡ Some (f e)
get_changed k f d e is there = rw there (get_with k (f e) d is)

pub get_absent : (k : List ℕ) (f : Data → Data) (d : Data)
    → get k d ≡ None → get k (with_some k (option_map f (get k d)) d) ≡ None
get_absent k f d none = rw (none, none) refl

-- ---- views

module _ (spans : List Span) (d : Data) (s : Span) (is : IsSome (as_object d))
    (there : span_of spans d ≡ Some s) where
  relocated_placed : relocated spans d ≡ placed s.place d
  relocated_placed = ap (λ o. unwrap_or (option_map (λ s. placed s.place d) o) d) there

  -- but for its extensions, a moved view is a relocated one
  pub get_moved : (q : List ℕ) → (q ≡ codes "extensions" → ⊥)
      → get q (moved spans d) ≡ get q (placed s.place d)
  get_moved q apart =
      get_with_some_other q (codes "extensions")
      (option_map (relocated_extensions spans) (get (codes "extensions") d)) (relocated spans d)
      apart
      ∙ ap (get q) relocated_placed

  pub moved_buffer : get (codes "buffer") (moved spans d) ≡ Some (whole 0)
  moved_buffer =
      get_moved (codes "buffer") (differ _ _ refl)
      ∙ get_with_other (codes "buffer") (codes "byteOffset")
      (whole (s.place + size_or_zero (codes "byteOffset") d))
      (with_member (codes "buffer") (whole 0) d) (differ _ _ refl)
      ∙ get_with (codes "buffer") (whole 0) d is

  pub moved_offset : get (codes "byteOffset") (moved spans d)
      ≡ Some (whole (s.place + size_or_zero (codes "byteOffset") d))
  moved_offset =
      get_moved (codes "byteOffset") (differ _ _ refl)
      ∙ get_with (codes "byteOffset") (whole (s.place + size_or_zero (codes "byteOffset") d))
      (with_member (codes "buffer") (whole 0) d) (object_with (codes "buffer") (whole 0) d is)

  -- all other members stay
  pub moved_other : (q : List ℕ) → (q ≡ codes "extensions" → ⊥) → (q ≡ codes "buffer" → ⊥)
      → (q ≡ codes "byteOffset" → ⊥) → get q (moved spans d) ≡ get q d
  moved_other q extensions buffer offset =
      get_moved q extensions ∙ get_with_other q (codes "byteOffset")
      (whole (s.place + size_or_zero (codes "byteOffset") d))
      (with_member (codes "buffer") (whole 0) d) offset
      ∙ get_with_other q (codes "buffer") (whole 0) d buffer

-- ---- documents

pub bundled_other : (spans : List Span) (total : ℕ) (d : Data) (q : List ℕ)
    → (q ≡ codes "buffers" → ⊥) → (q ≡ codes "bufferViews" → ⊥)
    → get q (bundled spans total d) ≡ get q d
bundled_other spans total d q buffers views =
    get_with_some_other q (codes "buffers") (buffers_after total d)
    (with_some (codes "bufferViews") (views_after spans d) d) buffers
    ∙ get_with_some_other q (codes "bufferViews") (views_after spans d) d views

pub bundled_views : (spans : List Span) (total : ℕ) (d e : Data) → IsSome (as_object d)
    → get (codes "bufferViews") d ≡ Some e
    → get (codes "bufferViews") (bundled spans total d) ≡ Some (each_item (moved spans) e)
bundled_views spans total d e is there =
    get_with_some_other (codes "bufferViews") (codes "buffers") (buffers_after total d)
    (with_some (codes "bufferViews") (views_after spans d) d) (differ _ _ refl)
    ∙ get_changed (codes "bufferViews") (each_item (moved spans)) d e is there

pub bundled_no_views : (spans : List Span) (total : ℕ) (d : Data)
    → get (codes "bufferViews") d ≡ None
    → get (codes "bufferViews") (bundled spans total d) ≡ None
bundled_no_views spans total d none =
    get_with_some_other (codes "bufferViews") (codes "buffers") (buffers_after total d)
    (with_some (codes "bufferViews") (views_after spans d) d) (differ _ _ refl)
    ∙ get_absent (codes "bufferViews") (each_item (moved spans)) d none
