-- What is read of a document as it is mended, before edits of it and behind: lemmas.
use Rattle.std.specs.Prelude.{◌≡◌, ℕ, List, Option, Some, None, IsSome}
use Rattle.std.proofs.Common.{refl, ap, subst, ◌∙◌}
use Rattle.serde_json.specs.Data.{Data}
use Rattle.serde_json.specs.Find.{get, as_object}
use Rattle.gltf_detach.specs.Detached.{detached}
use Rattle.gltf_edit.specs.Bundled.{bundled, ArePlaced}
use Rattle.gltf_edit.specs.Embedded.{embedded}
use Rattle.gltf_edit.specs.declared.picture.Picture.{Picture}
use Rattle.gltf_edit.specs.declared.span.Span.{Span}
use Rattle.gltf_mend.specs.declared.mends.Mends.{Mends}
use Rattle.gltf_mended.specs.Edited.{pictures_left, bundles_left, places_left, uris_left}
use Rattle.gltf_mended.specs.Laws.{IsNotMended}
use Rattle.gltf_mended.specs.Left.{get_mended, object_mended}
use Rattle.gltf_required.specs.Required.{as_read, mended_by, mends_of}
use Rattle.gltf_required.specs.declared.required.Required.{Required}

get_by : (o : Option Mends) (k : List ℕ) → IsNotMended k → (d : Data)
    → get k (mended_by o d) ≡ get k d
get_by None k is d = refl
get_by (Some mends) k is d = get_mended mends k is d

pub get_read : (required : Required) (k : List ℕ) → IsNotMended k → (d : Data)
    → get k (as_read required d) ≡ get k d
get_read required k is d = get_by (mends_of required) k is d

object_by : (o : Option Mends) (d : Data) → IsSome (as_object (mended_by o d))
    → IsSome (as_object d)
object_by None d is = is
object_by (Some mends) d is = object_mended mends d is

pub object_read : (required : Required) (d : Data) → IsSome (as_object (as_read required d))
    → IsSome (as_object d)
object_read required d is = object_by (mends_of required) d is

-- ---- images in buffers of their own, and all buffers in one

moved_by : (o : Option Mends) (spans : List Span) (total : ℕ) (ps : List (Option Picture))
    (d : Data)
    → mended_by o (bundled spans total (embedded ps d))
    ≡ bundled spans total (embedded ps (mended_by o d))
moved_by None spans total ps d = refl
moved_by (Some mends) spans total ps d =
    bundles_left mends spans total (embedded ps d)
    ∙ ap (bundled spans total) (pictures_left mends ps d)

pub read_moved : (required : Required) (spans : List Span) (total : ℕ)
    (ps : List (Option Picture)) (d : Data)
    → as_read required (bundled spans total (embedded ps d))
    ≡ bundled spans total (embedded ps (as_read required d))
read_moved required spans total ps d = moved_by (mends_of required) spans total ps d

placed_by : (o : Option Mends) (spans : List Span) (ps : List (Option Picture)) (d : Data)
    → ArePlaced spans (embedded ps d) → ArePlaced spans (embedded ps (mended_by o d))
placed_by None spans ps d placed = placed
placed_by (Some mends) spans ps d placed =
    subst (ArePlaced spans) (pictures_left mends ps d)
    (places_left mends spans (embedded ps d) placed)

pub read_placed : (required : Required) (spans : List Span) (ps : List (Option Picture)) (d : Data)
    → ArePlaced spans (embedded ps d) → ArePlaced spans (embedded ps (as_read required d))
read_placed required spans ps d placed = placed_by (mends_of required) spans ps d placed

-- ---- buffers and images with URIs

detached_by : (o : Option Mends) (us vs : List (Option (List ℕ))) (d : Data)
    → mended_by o (detached us vs d) ≡ detached us vs (mended_by o d)
detached_by None us vs d = refl
detached_by (Some mends) us vs d = uris_left mends us vs d

pub read_detached : (required : Required) (us vs : List (Option (List ℕ))) (d : Data)
    → as_read required (detached us vs d) ≡ detached us vs (as_read required d)
read_detached required us vs d = detached_by (mends_of required) us vs d
