-- The images of a file that is split and bundled.
use Rattle.std.proofs.Common.{◌≡◌, ℕ, List, Option, Some, Result, Ok, sym, subst, ap, ◌∙◌}
use Rattle.std.proofs.Common.{option_map, string_bytes}
use Rattle.gltf_buffers.specs.Buffers.{BufferFault, IsMeant, bytes_outside}
use Rattle.gltf_buffers.specs.Names.{Held}
use Rattle.gltf_buffers.specs.Uri.{Meaning, Payload, File, Relative, Unsupported, uri_of}
use Rattle.gltf_detach.specs.Naming.{uri_of_part}
use Rattle.gltf_moved.specs.Images.{IsInView}
use Rattle.gltf_bundle.specs.Laws as bundled
use Rattle.gltf_bundle.specs.Media.{media_of}
use Rattle.gltf_split.specs.Laws.{Holds, ShowsImages}
use Rattle.gltf_converted.specs.Laws.{KeepsImagesThere}
use Rattle.gltf_converted.proofs.Sources.{held_read}

of_ok : {x y : List ℕ} → ◌≡◌ {A = Result (List ℕ) BufferFault} (Ok x) (Ok y) → x ≡ y
of_ok same = cc

-- a URI leads to the same bytes, whenever a source is asked
meant_once : (there : Holds) (meaning : Meaning) (one other : List ℕ)
    → IsMeant (Held there) meaning (Ok one) → IsMeant (Held there) meaning (Ok other) → one ≡ other
meant_once there (Payload text) one other first second = of_ok (sym first.is ∙ second.is)
meant_once there (File name) one other first second =
    of_ok (sym first.is ∙ ap bytes_outside (sym first.may.1 ∙ second.may.1) ∙ second.is)
meant_once there (Relative name) one other first second =
    of_ok (sym first.is ∙ ap bytes_outside (sym first.may.1 ∙ second.may.1) ∙ second.is)
meant_once there Unsupported one other first second = of_ok (sym first.is ∙ second.is)

pub keeps_images : ShowsImages → bundled.ShowsImages → KeepsImagesThere
keeps_images split bundle required names path stem keep drop set is there other held passing alike
    answer made reading same_reading over s others read i p slot holds x at =
    let text = held_read passing there other (string_bytes set.json) made.value made.root_
    made.buffers held made.gathered.source in
    let shown = split required names path stem keep drop set is passing alike there made.root_
    made.buffers text i p slot holds x at in
    let inside = bundle passing (Held there) other answer made reading same_reading over s others
    read i shown.image shown.is_there shown.uri shown.has_uri shown.no_view in
    let bytes = p.bytes.items in
    let type = option_map string_bytes x.mime_type in
    let same : inside.bytes ≡ bytes =
    meant_once there (uri_of shown.uri) inside.bytes bytes inside.meant shown.meant in
    record {
      media = inside.media;
      is_media =
          ap (λ (u : List ℕ). media_of u type bytes) (sym shown.own)
          ∙ ap (λ (t : Option (List ℕ)). media_of shown.uri t bytes) (sym shown.type)
          ∙ ap (media_of shown.uri (option_map string_bytes shown.image.mime_type)) (sym same)
          ∙ inside.is_media;
      in_view = subst (λ (b : List ℕ). IsInView others s i inside.media b) same inside.in_view;
    }
