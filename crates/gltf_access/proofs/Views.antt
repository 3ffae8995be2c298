-- From the view that a getter gives to that of the record that names it.
use Rattle.std.proofs.Common.{◌≡◌, ℕ, List, refl, sym, subst, ◌∙◌}
use Rattle.std.specs.Prelude.{Option, Some, None, unwrap_or, option_and_then, is_some, false}
use Rattle.gltf_json.specs.declared.root.Root.{Root}
use Rattle.gltf_json_geometry.specs.declared.accessor.Accessor.{Accessor}
use Rattle.gltf_json_geometry.specs.declared.buffer.View.{View}
use Rattle.gltf_json_geometry.specs.declared.accessor.sparse.Sparse.{Sparse as SparseRecord}
use Rattle.gltf_json_scene.specs.declared.image.Image.{Image}
use Rattle.gltf_rules.specs.contracts.records.ValidRecords.TheImpl as valid
use Rattle.gltf_handles.specs.Accessors.{IsSparse}
use Rattle.gltf_handles.specs.declared.accessor.sparse.Sparse.{Sparse}
use Rattle.gltf_handles.specs.Buffers.{IsView, view_handle}
use Rattle.gltf_handles.specs.Members.{Follows}
use Rattle.gltf_handles.specs.Sizes.{item_size}
use Rattle.gltf_handles.specs.declared.buffer.View.{View as ViewHandle}
use Rattle.gltf_data.specs.Answers.{Results, AlwaysAnswers}
use Rattle.gltf_data.specs.Parts.{part_of, view_at}
use Rattle.gltf_access.specs.Raw.{Raw, IsLent, IsAnsweredIn, answer_in, whole_part, part_view}
use Rattle.gltf_access.specs.Raw.{IsRawPart, IsRawView, image_view}

-- what a closure answered that answers one buffer always alike
same_answer : {Gives : Results} {r : Root} (v : Option View) (answer : Option (List ℕ))
    (always : ℕ → Option (List ℕ)) → AlwaysAnswers Gives r always → IsAnsweredIn Gives r v answer
    → answer ≡ answer_in always v
same_answer None answer always alike h = h
same_answer (Some v) answer always alike h =
    sym h.is_answer ∙ alike h.buffer h.given v.buffer h.is_buffer h.result

pub lent : {Gives : Results} {r : Root} (v : Option View) (IsBy : Option (List ℕ) → Type 0)
    (answer : Option (List ℕ)) → IsAnsweredIn Gives r v answer → IsBy answer
    → IsLent Gives r v IsBy
lent v IsBy answer answered is_by = record {
  answer = answer;
  answered = answered;
  is_by = is_by;
  alike = λ always alike. subst IsBy (same_answer v answer always alike answered) is_by;
}

-- a sparse part of which nothing is given is absent
pub absent : (r : Root) (o : Option SparseRecord) (given : Option (Sparse Root valid.ghosts))
    → Follows (IsSparse r) o given → is_some given ≡ false → o ≡ None
absent r None given follows none = refl
absent r (Some m) None follows none = absurd follows
absent r (Some m) (Some h) follows none = absurd (cc none)

-- the view at an index is that of the handle
view_is : (r : Root) (o : Option ℕ) (v : ViewHandle Root valid.ghosts)
    → Follows (IsView r) o (Some v)
    → (option_and_then (view_at r) o ≡ Some (view_handle v).json) × ((view_handle v).document ≡ r)
view_is r None v h = absurd h
view_is r (Some i) v h = (h.json, h.document)

whole_is : (r : Root) (a : Accessor) (v : View) (offset count size : ℕ) → a.sparse ≡ None
    → option_and_then (view_at r) a.buffer_view ≡ Some v → offset ≡ unwrap_or a.byte_offset 0
    → count ≡ a.count → size ≡ item_size a
    → whole_part r a a.sparse ≡ Some (part_of v offset count size)
whole_is r a v offset count size plain at o n s = rw (plain, at, o, n, s) refl

-- the items of an accessor are those of its view
pub accessor_lent : {Gives : Results} (r : Root) (a : Accessor) (v : ViewHandle Root valid.ghosts)
    (offset count size : ℕ) (result : Option Raw) → a.sparse ≡ None
    → Follows (IsView r) a.buffer_view (Some v) → offset ≡ unwrap_or a.byte_offset 0
    → count ≡ a.count → size ≡ item_size a
    → IsLent Gives (view_handle v).document (Some (view_handle v).json)
    (λ given. IsRawPart (Some (part_of (view_handle v).json offset count size)) given result)
    → IsLent Gives r (part_view (whole_part r a a.sparse))
    (λ given. IsRawPart (whole_part r a a.sparse) given result)
accessor_lent {Gives = Gives} r a v offset count size result plain follows o n s h =
    let view = view_is r a.buffer_view v follows in
    let part = whole_is r a (view_handle v).json offset count size plain view.0 o n s in
    let here : IsLent Gives r (Some (view_handle v).json)
    (λ given. IsRawPart (Some (part_of (view_handle v).json offset count size)) given result) =
    subst (λ d. IsLent Gives d (Some (view_handle v).json) (λ given.
    IsRawPart (Some (part_of (view_handle v).json offset count size)) given result)) view.1 h in
    subst (λ p. IsLent Gives r (part_view p) (λ given. IsRawPart p given result)) (sym part) here

-- the bytes of an image are those of its view
pub image_lent : {Gives : Results} (r : Root) (i : Image) (v : ViewHandle Root valid.ghosts)
    (result : Option (List ℕ)) → Follows (IsView r) i.buffer_view (Some v)
    → IsLent Gives (view_handle v).document (Some (view_handle v).json)
    (λ given. IsRawView (Some (view_handle v).json) given result)
    → IsLent Gives r (image_view r i) (λ given. IsRawView (image_view r i) given result)
image_lent {Gives = Gives} r i v result follows h =
    let view = view_is r i.buffer_view v follows in
    let here : IsLent Gives r (Some (view_handle v).json)
    (λ given. IsRawView (Some (view_handle v).json) given result) =
    subst (λ d. IsLent Gives d (Some (view_handle v).json)
    (λ given. IsRawView (Some (view_handle v).json) given result)) view.1 h in
    subst (λ o. IsLent Gives r o (λ given. IsRawView o given result)) (sym view.0) here
