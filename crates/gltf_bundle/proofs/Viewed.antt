-- An image of the file that names a view, in the container.
use Rattle.std.proofs.Common.{◌≡◌, ℕ, zero, suc, List, [], ◌∷◌, ◌++◌, length, take, drop, Option}
use Rattle.std.proofs.Common.{Some, None, refl, sym, ap, subst, ◌∙◌, codes, option_map}
use Rattle.std.proofs.Common.{string_bytes}
use Rattle.std.specs.Prelude.{slice_get}
use Rattle.serde_json.specs.Data.{Data, Items, no_items, item}
use Rattle.serde_json.specs.Find.{get, get_item}
use Rattle.gltf_json.specs.Documents.{root}
use Rattle.gltf_json.specs.declared.root.Root.{Root}
use Rattle.gltf_json_scene.specs.Images.{image}
use Rattle.gltf_json_scene.specs.declared.image.Image.{Image}
use Rattle.gltf_data.specs.Parts.{view_offset}
use Rattle.gltf_edit.specs.Embedded.{own_uri, own_uri_at, text_at, items_at}
use Rattle.gltf_edit.specs.Joined.{joined}
use Rattle.gltf_edit.specs.declared.picture.Picture.{Picture}
use Rattle.gltf_moved.specs.Images.{picture_at, left, KeepsImages as MovedKeeps}
use Rattle.gltf_moved.specs.Laws.{one_list}
use Rattle.gltf_moved.specs.RowLaws.{ReadsList, comes_from}
use Rattle.gltf_moved.specs.Views.{StaysView, KeepsViews}
use Rattle.gltf_mended.specs.Edited.{images_left}
use Rattle.gltf_required.specs.Read.{get_read}
use Rattle.gltf_glb.specs.Laws.{ReadsBack}
use Rattle.gltf.specs.Laws.{OneTextAndBlob}
use Rattle.gltf_pack.specs.Laws.{SpacesBehind}
use Rattle.gltf_names.specs.Named.{Named}
use Rattle.gltf_buffers.specs.Names.{Names}
use Rattle.gltf_bundle.specs.Images.{AllTaken, AreTaken, Takes}
use Rattle.gltf_bundle.specs.Laws.{IsOfView, KeepsImages}
use Rattle.gltf_bundle.specs.declared.options.Keep.{Keep}
use Rattle.gltf_bundle.specs.declared.options.Keep.TheVariants.{Nothing, Missing, Every}
use Rattle.gltf_bundle.proofs.Imported.{is_moved, the_buffers}
use Rattle.gltf_bundle.proofs.Shown.{view_read}

-- ---- it is not taken in

module _ (keep : Keep) (names : Names) (e : Data) (none : own_uri e ≡ None) where
  not_taken : (p : Option Picture) (one : List (List ℕ)) (lost : List Named)
      → Takes keep names e p one lost → p ≡ None
  not_taken None one lost takes = refl
  not_taken (Some p) one lost takes = let there = takes.1.there in cc

  no_picture : (ds : Items) (ps : List (Option Picture)) (taken : List (List ℕ))
      (lost : List Named) (i : ℕ) → AllTaken keep names ds ps taken lost
      → get_item i ds ≡ Some e → picture_at i ps ≡ None
  no_picture no_items ps taken lost i all there = cc
  no_picture (item d ds) [] taken lost i all there = absurd all
  no_picture (item d ds) (p ∷ ps) taken lost zero
      (one, more, was, behind, first, rest, is, lost_is) there =
      let same : d ≡ e = cc in
      not_taken p one was (subst (λ d. Takes keep names d p one was) same first)
  no_picture (item d ds) (p ∷ ps) taken lost (suc i)
      (one, more, was, behind, first, rest, is, lost_is) there =
      no_picture ds ps more behind i rest there

stays_out : (keep : Keep) (names : Names) (value : Data) (ps : List (Option Picture))
    (taken : List (List ℕ)) (lost : List Named) (i : ℕ) (e : Data)
    → AreTaken keep names value ps taken lost
    → get_item i (items_at (codes "images") value) ≡ Some e → own_uri e ≡ None
    → picture_at i ps ≡ None
stays_out Nothing names value ps taken lost i e all there none =
    no_picture Nothing names e none (items_at (codes "images") value) ps taken lost i all there
stays_out Missing names value ps taken lost i e all there none =
    no_picture Missing names e none (items_at (codes "images") value) ps taken lost i all there
stays_out Every names value ps taken lost i e all there none = ap (picture_at i) all.0

-- ---- in the container

-- where there is a buffer, there is the one
first_of : (buffers images : List (List ℕ)) (i : ℕ) (bytes : List ℕ)
    → slice_get buffers i ≡ Some bytes
    → slice_get (one_list (buffers ++ images)) 0 ≡ Some (joined (buffers ++ images))
first_of [] images i bytes there = cc
first_of (b ∷ bs) images i bytes there = refl

of_some : {x y : List ℕ} → ◌≡◌ {A = Option (List ℕ)} (Some x) (Some y) → x ≡ y
of_some same = cc

left_type : (ps : List (Option Picture)) (x : Image)
    → option_map string_bytes (left ps x).mime_type ≡ option_map string_bytes x.mime_type
left_type [] x = refl
left_type (p ∷ ps) x = refl

same_type : (x y : Image) → image.content y ≡ image.content x
    → option_map string_bytes y.mime_type ≡ option_map string_bytes x.mime_type
unfolding image
same_type x y same = ap (λ c. c.1.0) same

pub keeps_images : OneTextAndBlob → ReadsBack → SpacesBehind → MovedKeeps → KeepsViews
    → KeepsImages
unfolding root
keeps_images one back spaces images views required names path keep answer is reading alike over s
    others accepted i x there bytes of_view =
    let kept = get_read required (codes "images") images_left is.value in
    let read = comes_from image.is (get (codes "images") is.value) is.root_.images.items i x
    (subst (λ o. ReadsList image.is o is.root_.images.items) kept
    is.gathered.source.records.1.1.1.1.1.1.1.0) there in
    let e = read.from in
    let none : own_uri e ≡ None =
    ap (λ (v : Option ℕ). own_uri_at v (text_at (codes "uri") e))
    (view_read e x read.reads ∙ of_view.names_view) in
    let moved = is_moved one back spaces required names path keep answer is reading over s others
    accepted alike in
    let stays = images is.buffers is.images is.root_ s moved i x there
    (stays_out keep names is.value is.pictures is.images is.lost i e is.gathered.taken read.listed
    none) in
    let view = views is.buffers is.images is.root_ s moved of_view.index of_view.view
    of_view.view_there in
    let whole = joined (is.buffers ++ is.images) in
    let its : of_view.whole ≡ view.bytes = of_some (sym of_view.whole_there ∙ view.its) in
    record {
      image = stays.image_;
      there = stays.there;
      type =
          same_type (left is.pictures x) stays.image_ stays.shows
          ∙ left_type is.pictures x;
      of_view = record {
        index = of_view.index;
        names_view = stays.view ∙ of_view.names_view;
        view = view.view;
        view_there = view.there;
        whole = whole;
        whole_there =
            ap (λ (bs : List (List ℕ)). slice_get bs view.view.buffer)
            (the_buffers one back spaces required names path keep answer is reading over s others
            accepted)
            ∙ ap (slice_get (one_list (is.buffers ++ is.images))) view.has.first
            ∙ first_of is.buffers is.images of_view.view.buffer view.bytes view.its;
        within = view.has.after;
        is_bytes =
            of_view.is_bytes
            ∙ ap (λ (xs : List ℕ).
            take of_view.view.byte_length (drop (view_offset of_view.view) xs)) its
            ∙ sym view.has.same;
      };
    }
