-- Edits of buffers, views and images, before a document is mended and behind: lemmas.
use Rattle.std.proofs.Common.{◌≡◌, ℕ, List, [], ◌∷◌, Option, Some, codes, refl, sym, ap, subst, ◌∙◌}
use Rattle.std.proofs.Common.{option_map, unwrap_or}
use Rattle.std.specs.Prelude.{MatchOption, option_and_then, ⊤}
use Rattle.serde_json.specs.Data.{Data, array, Items, no_items, item}
use Rattle.serde_json.specs.Events.{items_len}
use Rattle.serde_json.specs.Find.{get, as_array}
use Rattle.gltf_detach.specs.Detached.{all_elsewhere, list_elsewhere}
use Rattle.gltf_detach.specs.declared.owner.Owner.TheVariants as owner
use Rattle.gltf_edit.specs.Bundled.{with_some, buffers_after, views_after, one_buffer}
use Rattle.gltf_edit.specs.Bundled.{each_item, moved, EachPlaced}
use Rattle.gltf_edit.specs.BundledLaws.{differ}
use Rattle.gltf_edit.specs.Embedded.{images_after, list_after, buffers_of, views_of}
use Rattle.gltf_edit.specs.Embedded.{items_at, count_at, with_items, pictured_in}
use Rattle.gltf_edit.specs.declared.picture.Picture.{Picture}
use Rattle.gltf_mend.specs.Mended.{mended}
use Rattle.gltf_mend.specs.declared.mends.Mends.{Mends}
use Rattle.gltf_mended.specs.Laws.{IsNotMended, LeavesPictures, LeavesBundles, LeavesPlaces}
use Rattle.gltf_mended.specs.Laws.{LeavesUris}
use Rattle.gltf_mended.specs.Left.{get_mended, put_mended}

abbrev pub buffers : List ℕ
buffers = codes "buffers"

abbrev pub views : List ℕ
views = codes "bufferViews"

abbrev pub images : List ℕ
images = codes "images"

pub buffers_left : IsNotMended buffers
buffers_left = record {
  no_animations = differ buffers (codes "animations") refl;
  no_meshes = differ buffers (codes "meshes") refl;
  no_textures = differ buffers (codes "textures") refl;
}

pub views_left : IsNotMended views
views_left = record {
  no_animations = differ views (codes "animations") refl;
  no_meshes = differ views (codes "meshes") refl;
  no_textures = differ views (codes "textures") refl;
}

pub images_left : IsNotMended images
images_left = record {
  no_animations = differ images (codes "animations") refl;
  no_meshes = differ images (codes "meshes") refl;
  no_textures = differ images (codes "textures") refl;
}

-- ---- of members that are left

items_same : (k : List ℕ) (d e : Data) → get k e ≡ get k d → items_at k e ≡ items_at k d
items_same k d e same =
    ap (λ (o : Option Data). unwrap_or (option_and_then as_array o) no_items) same

count_same : (k : List ℕ) (d e : Data) → get k e ≡ get k d → count_at k e ≡ count_at k d
count_same k d e same = ap items_len (items_same k d e same)

list_same : (k : List ℕ) (more : Items) (d e : Data) → get k e ≡ get k d
    → list_after k more e ≡ list_after k more d
list_same k no_items d e same = refl
list_same k (item x more) d e same =
    ap (λ (ds : Items). Some (array (with_items ds (item x more)))) (items_same k d e same)

images_same : (ps : List (Option Picture)) (d e : Data) → get views e ≡ get views d
    → get images e ≡ get images d → images_after ps e ≡ images_after ps d
images_same [] d e count same = refl
images_same (p ∷ ps) d e count same =
    ap (λ (n : ℕ). option_map (pictured_in n (p ∷ ps)) (get images e)) (count_same views d e count)
    ∙ ap (option_map (pictured_in (count_at views d) (p ∷ ps))) same

-- ---- the edits

module _ (mends : Mends) (d : Data) where
  abbrev after : Data
  after = mended mends d

  same_buffers : get buffers after ≡ get buffers d
  same_buffers = get_mended mends buffers buffers_left d

  same_views : get views after ≡ get views d
  same_views = get_mended mends views views_left d

  same_images : get images after ≡ get images d
  same_images = get_mended mends images images_left d

pub pictures_left : LeavesPictures
pictures_left mends ps d =
    let e = mended mends d in
    let image = images_after ps d in
    let view = list_after views (views_of (count_at buffers d) ps) d in
    let buffer = list_after buffers (buffers_of ps) d in
    put_mended mends images images_left image (with_some views view (with_some buffers buffer d))
    ∙ ap (with_some images image)
    (put_mended mends views views_left view (with_some buffers buffer d)
    ∙ ap (with_some views view) (put_mended mends buffers buffers_left buffer d))
    ∙ ap (λ (o : Option Data).
    with_some images o (with_some views view (with_some buffers buffer e)))
    (sym (images_same ps d e (same_views mends d) (same_images mends d)))
    ∙ ap (λ (o : Option Data). with_some images (images_after ps e)
    (with_some views o (with_some buffers buffer e)))
    (sym (list_same views (views_of (count_at buffers d) ps) d e (same_views mends d)))
    ∙ ap (λ (n : ℕ). with_some images (images_after ps e)
    (with_some views (list_after views (views_of n ps) e) (with_some buffers buffer e)))
    (sym (count_same buffers d e (same_buffers mends d)))
    ∙ ap (λ (o : Option Data). with_some images (images_after ps e)
    (with_some views (list_after views (views_of (count_at buffers e) ps) e)
    (with_some buffers o e)))
    (sym (list_same buffers (buffers_of ps) d e (same_buffers mends d)))

pub bundles_left : LeavesBundles
bundles_left mends spans total d =
    let e = mended mends d in
    let buffer = buffers_after total d in
    let view = views_after spans d in
    put_mended mends buffers buffers_left buffer (with_some views view d)
    ∙ ap (with_some buffers buffer) (put_mended mends views views_left view d)
    ∙ ap (λ (o : Option Data). with_some buffers (option_map (one_buffer total) o)
    (with_some views view e)) (sym (same_buffers mends d))
    ∙ ap (λ (o : Option Data). with_some buffers (buffers_after total e)
    (with_some views (option_map (each_item (moved spans)) o) e)) (sym (same_views mends d))

pub places_left : LeavesPlaces
places_left mends spans d placed =
    subst (λ (o : Option Data). MatchOption o ⊤ (EachPlaced spans)) (sym (same_views mends d))
    placed

pub uris_left : LeavesUris
uris_left mends us vs d =
    let e = mended mends d in
    let buffer = list_elsewhere owner.Buffer us d in
    let image = list_elsewhere owner.Image vs d in
    put_mended mends buffers buffers_left buffer (with_some images image d)
    ∙ ap (with_some buffers buffer) (put_mended mends images images_left image d)
    ∙ ap (λ (o : Option Data). with_some buffers (option_map (all_elsewhere owner.Buffer us) o)
    (with_some images image e)) (sym (same_buffers mends d))
    ∙ ap (λ (o : Option Data). with_some buffers (list_elsewhere owner.Buffer us e)
    (with_some images (option_map (all_elsewhere owner.Image vs) o) e)) (sym (same_images mends d))
