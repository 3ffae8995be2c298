-- An image of the file that has a URI and names no view, among the files.
use Rattle.std.proofs.Common.{◌≡◌, ℕ, ◌+◌, zero, suc, List, [], ◌∷◌, Option, Some, None, Ok}
use Rattle.std.proofs.Common.{refl, sym, subst, ◌∙◌, codes, option_map, string_bytes}
use Rattle.std.specs.Prelude.{MatchOption, slice_get}
use Rattle.serde_json.specs.Data.{Data, Items, no_items, item}
use Rattle.serde_json.specs.Find.{get, get_item}
use Rattle.gltf_json.specs.Documents.{root}
use Rattle.gltf_json_scene.specs.Images.{image}
use Rattle.gltf_json_scene.specs.declared.image.Image.{Image}
use Rattle.gltf_detach.specs.declared.part.Part.{Part}
use Rattle.gltf_edit.specs.Bundled.{size_at}
use Rattle.gltf_edit.specs.Embedded.{items_at}
use Rattle.gltf_moved.specs.RowLaws.{ReadsList, comes_from}
use Rattle.gltf_mended.specs.Edited.{images_left}
use Rattle.gltf_required.specs.Read.{get_read}
use Rattle.gltf_names.specs.Named.{Named}
use Rattle.gltf_buffers.specs.Buffers.{IsMeant}
use Rattle.gltf_buffers.specs.Names.{Names}
use Rattle.gltf_buffers.specs.Uri.{uri_of}
use Rattle.gltf_bundle.specs.Images.{text_at}
use Rattle.gltf_bundle.specs.TextLaws.{text_read}
use Rattle.gltf_bundle.specs.declared.options.Keep.{Keep}
use Rattle.gltf_bundle.specs.declared.options.Keep.TheVariants.{Nothing}
use Rattle.gltf_split.specs.Images.{AreImages, AreParts, MayBePart, IsLinked}
use Rattle.gltf_split.specs.Laws.{HasLinkedFiles}
use Rattle.gltf_split.specs.Views.{view_bytes}
use Rattle.gltf_split.proofs.Viewed.{view_read}

uri_read : (e : Data) (x : Image) → image.is e x
    → text_at (codes "uri") e ≡ option_map string_bytes x.uri
unfolding image
uri_read e x is = text_read (get (codes "uri") e) x.uri is.1.1.1.0

of_some : {x y : List ℕ} → ◌≡◌ {A = Option (List ℕ)} (Some x) (Some y) → x ≡ y
of_some same = cc

module _ (names : Names) (stem : List ℕ) (buffers : List (List ℕ)) (document : Data)
    (uri : List ℕ) where
  abbrev HasFile : List (Option Part) → ℕ → Type 0
  HasFile ps i =
      (p : Part) × (slice_get ps i ≡ Some (Some p))
      × IsMeant names (uri_of uri) (Ok p.bytes.items)

  here : (p : Option Part) (ps : List (Option Part)) (d : Data) (k : ℕ) (lost : List Named)
      → size_at (codes "bufferView") d ≡ None → text_at (codes "uri") d ≡ Some uri
      → MayBePart Nothing names stem buffers document k d p lost → HasFile (p ∷ ps) 0
  here None ps d k lost no_view with_uri may = let none = may.none.no_uri in cc
  here (Some p) ps d k lost no_view with_uri may =
      let linked : IsLinked names d p.bytes.items =
      subst (λ (o : Option ℕ).
      MatchOption o (IsLinked names d p.bytes.items)
      (λ v. view_bytes buffers document v ≡ Some p.bytes.items)) no_view may.0.bytes in
      let same : linked.uri ≡ uri = of_some (sym linked.there ∙ with_uri) in (
        p,
        refl,
        subst (λ (u : List ℕ). IsMeant names (uri_of u) (Ok p.bytes.items)) same linked.meant,
      )

  file_at : (ds : Items) (ps : List (Option Part)) (k i : ℕ) (lost : List Named) (d : Data)
      → AreParts Nothing names stem buffers document k ds ps lost → get_item i ds ≡ Some d
      → size_at (codes "bufferView") d ≡ None → text_at (codes "uri") d ≡ Some uri → HasFile ps i
  file_at no_items ps k i lost d all there no_view with_uri = cc
  file_at (item e ds) [] k i lost d all there no_view with_uri = absurd all
  file_at (item e ds) (p ∷ ps) k zero lost d (first, rest, one, more, after) there no_view
      with_uri =
      let same : e ≡ d = cc in
      here p ps d k first no_view with_uri
      (subst (λ e. MayBePart Nothing names stem buffers document k e p first) same one)
  file_at (item e ds) (p ∷ ps) k (suc i) lost d (first, rest, one, more, after) there no_view
      with_uri =
      file_at ds ps (k + 1) i rest d more there no_view with_uri

pub has_linked_files : HasLinkedFiles
unfolding root
has_linked_files required names path stem keep drop set is none i x there uri with_uri no_view =
    let read = comes_from image.is (get (codes "images") is.value) is.root_.images.items i x
    (subst (λ o. ReadsList image.is o is.root_.images.items)
    (get_read required (codes "images") images_left is.value)
    is.source.records.1.1.1.1.1.1.1.0) there in
    let all : AreParts Nothing names stem is.whole is.value 0 (items_at (codes "images") is.value)
    set.images.items is.lost =
    subst (λ (k : Keep). AreImages k names stem is.whole is.value set.images.items is.lost) none
    is.images in
    let found = file_at names stem is.whole is.value uri (items_at (codes "images") is.value)
    set.images.items 0 i is.lost read.from all read.listed
    (view_read read.from x read.reads ∙ no_view)
    (uri_read read.from x read.reads ∙ with_uri) in
    record { part = found.0; there = found.1; meant = found.2 }
