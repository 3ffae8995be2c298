-- The images of a file that is bundled and split.
use Rattle.std.proofs.Common.{◌≡◌, ◌≢◌, ℕ, List, Option, Some, None, Bool, Ok, refl, subst, ◌∙◌}
use Rattle.std.proofs.Common.{option_map, string_bytes}
use Rattle.std.specs.Prelude.{slice_get}
use Rattle.gltf_json.specs.declared.root.Root.{Root}
use Rattle.gltf_json_scene.specs.declared.image.Image.{Image}
use Rattle.gltf_names.specs.Named.{File}
use Rattle.gltf_buffers.specs.Buffers.{IsMeant}
use Rattle.gltf_buffers.specs.Names.{Names, Held}
use Rattle.gltf_buffers.specs.Uri.{uri_of}
use Rattle.gltf_required.specs.Import.{IsRead}
use Rattle.gltf_required.specs.Required.{ReadAlike}
use Rattle.gltf_required.specs.declared.required.Required.{Required}
use Rattle.gltf_bundle.specs.Bundle.{IsBundle}
use Rattle.gltf_bundle.specs.Laws as bundled
use Rattle.gltf_bundle.specs.declared.options.Keep.{Keep}
use Rattle.gltf_bundle.specs.declared.options.Keep.TheVariants.{Nothing, Every}
use Rattle.gltf_moved.specs.Images.{IsInView}
use Rattle.gltf_split.specs.Laws.{Holds, ShowsImages, HasFiles}
use Rattle.gltf_split.specs.Splits.{IsSplit}
use Rattle.gltf_split.specs.declared.splitting.Pieces.{Pieces}
use Rattle.gltf_converted.specs.Laws.{HoldsImages, HasFile, HasFileOfUri, KeepsImagesBack}
use Rattle.gltf_converted.proofs.Sources.{held_read}

module _ (files : HasFiles) (shows : ShowsImages) (passing : Required) (from : Holds)
    (other stem : List ℕ) (kept : Keep) (apart : kept ≢ Every) (drop : Bool) (set : Pieces)
    (cut : IsSplit passing (Held from) other stem kept drop set) (reading : Required)
    (same : ReadAlike passing reading) (there : Holds) (holds : HoldsImages there set) (s : Root)
    (others : List (List ℕ)) (read : IsRead reading (Held there) (string_bytes set.json) s others)
    (i : ℕ) where
  -- an image of the container that names a view
  of_view : (y : Image) → slice_get cut.root_.images.items i ≡ Some y → (bytes : List ℕ)
      → bundled.IsOfView cut.whole cut.root_ y bytes
      → HasFile there s i (option_map string_bytes y.mime_type) bytes
  of_view y at bytes viewed =
      let file = files passing (Held from) other stem kept drop set cut apart i y at bytes viewed in
      let shown = shows passing (Held from) other stem kept drop set cut reading same there s others
      read i file.0 file.1 (holds i file.0 file.1) y at in
      record {
        image = shown.image;
        is_there = shown.is_there;
        uri = shown.uri;
        has_uri = shown.has_uri;
        no_view = shown.no_view;
        meant =
            subst (λ (b : List ℕ). IsMeant (Held there) (uri_of shown.uri) (Ok b)) file.2
            shown.meant;
        type_ = shown.type;
      }

  -- one of which it is known that it has no URI, and its media type
  in_view : (media bytes : List ℕ) → IsInView cut.whole cut.root_ i media bytes
      → HasFile there s i (Some media) bytes
  in_view media bytes inside =
      subst (λ (t : Option (List ℕ)). HasFile there s i t bytes) inside.type
      (of_view inside.image inside.there bytes record {
        index = inside.index;
        names_view = inside.names_view;
        view = inside.view;
        view_there = inside.view_there;
        whole = inside.whole;
        whole_there = inside.whole_there;
        within = inside.within;
        is_bytes = inside.is_bytes;
      })

pub keeps_images : bundled.ShowsImages → bundled.KeepsImages → HasFiles → ShowsImages
    → KeepsImagesBack
keeps_images taken kept_in files shows required names path answer is from other held passing alike
    stem kept apart drop set cut reading same there holds s others read i x at =
    let text = held_read passing from other answer cut.value cut.root_ cut.whole held cut.source in
    let viewed : (bytes : List ℕ) → bundled.IsOfView is.buffers is.root_ x bytes
    → HasFile there s i (option_map string_bytes x.mime_type) bytes =
    λ bytes of_it.
    let still = kept_in required names path Nothing answer is passing alike (Held from) cut.root_
    cut.whole text i x at bytes of_it in
    subst (λ (t : Option (List ℕ)). HasFile there s i t bytes) still.type
    (of_view files shows passing from other stem kept apart drop set cut reading same there holds s
    others read i still.image still.there bytes still.of_view) in
    let by_uri : (uri : List ℕ) → option_map string_bytes x.uri ≡ Some uri → x.buffer_view ≡ None
    → HasFileOfUri names uri (option_map string_bytes x.mime_type) there s i =
    λ uri with_uri no_view.
    let shown = taken required names path answer is passing alike (Held from) cut.root_ cut.whole
    text i x at uri with_uri no_view in
    record {
      bytes = shown.bytes;
      media = shown.media;
      meant = shown.meant;
      is_media = shown.is_media;
      file =
          in_view files shows passing from other stem kept apart drop set cut reading same there
          holds s others read i shown.media shown.bytes shown.in_view;
    } in
    (viewed, by_uri)
