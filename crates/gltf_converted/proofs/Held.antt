-- Each image of a file that is split and bundled.
use Rattle.std.proofs.Common.{◌≡◌, ◌≢◌, ℕ, List, Option, Some, None, sym, ap, subst, ◌∙◌}
use Rattle.std.proofs.Common.{option_map, string_bytes}
use Rattle.std.specs.Prelude.{slice_get}
use Rattle.gltf_detach.specs.Naming.{uri_of_part}
use Rattle.gltf_detach.specs.declared.part.Part.{Part}
use Rattle.gltf_detached.specs.Laws.{LeadToNames}
use Rattle.gltf_bundle.specs.Laws.{IsOfView}
use Rattle.gltf_bundle.specs.Media.{or_else, own_media}
use Rattle.gltf_bundle.specs.declared.options.Keep.TheVariants.{Nothing}
use Rattle.gltf_split.specs.Laws.{HasFiles, HasLinkedFiles}
use Rattle.gltf_converted.specs.Laws.{HoldsEachImage, IsHeld, IsHeldOfUri, KeepsImagesThere}
use Rattle.gltf_converted.proofs.Typed.{names_none, same_media}

pub holds_each_image : LeadToNames → HasFiles → HasLinkedFiles → KeepsImagesThere → HoldsEachImage
holds_each_image lead files linked kept required names path stem keep apart drop set is there holds
    other text passing alike answer made reading same over s others read i x at =
    let own = option_map string_bytes x.mime_type in
    let of_part : (p : Part) → slice_get set.images.items i ≡ Some (Some p)
    → IsHeld others s i own p.bytes.items =
    λ p slot.
    let has = kept required names path stem keep drop set is there other text passing alike answer
    made reading same over s others read i p slot (holds i p slot) x at in
    record {
      media = has.media;
      is_media =
          sym (ap (λ (o : Option (List ℕ)). or_else o (own_media own p.bytes.items))
          (names_none (uri_of_part p) (string_bytes p.name) (lead p))) ∙ has.is_media;
      in_view = has.in_view;
    } in
    let viewed : (bytes : List ℕ) → IsOfView is.whole is.root_ x bytes
    → IsHeld others s i own bytes =
    λ bytes of_it.
    let file = files required names path stem keep drop set is apart i x at bytes of_it in
    subst (λ (b : List ℕ). IsHeld others s i own b) file.2 (of_part file.0 file.1) in
    let by_uri : keep ≡ Nothing → (uri : List ℕ) → option_map string_bytes x.uri ≡ Some uri
    → x.buffer_view ≡ None → IsHeldOfUri names uri own others s i =
    λ none uri with_uri no_view.
    let file = linked required names path stem keep drop set is none i x at uri with_uri no_view in
    let held = of_part file.part file.there in
    record {
      bytes = file.part.bytes.items;
      meant = file.meant;
      held = held;
      type_ = λ alone. same_media uri own file.part.bytes.items alone ∙ held.is_media;
    } in
    (viewed, by_uri)
