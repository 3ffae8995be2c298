-- From one part that was read to an accessor that was read.
use Rattle.std.proofs.Common.{◌≡◌, ℕ, List, sym, ap, ◌∙◌, subst, refl}
use Rattle.std.specs.Prelude.{Option, Some, None, Result, unwrap_or, option_and_then}
use Rattle.std.specs.Result.{result_map_both}
use Rattle.gltf_json.specs.declared.root.Root.{Root}
use Rattle.gltf_json_geometry.specs.declared.buffer.View.{View}
use Rattle.gltf_json_geometry.specs.declared.accessor.Accessor.{Accessor}
use Rattle.gltf_json_geometry.specs.declared.accessor.sparse.Sparse.{Sparse}
use Rattle.gltf_rules.specs.contracts.records.ValidRecords.TheImpl as valid
use Rattle.gltf_handles.specs.declared.buffer.View.{View as ViewHandle}
use Rattle.byteorder.specs.Endian.{little_number}
use Rattle.gltf_json_record.specs.declared.validation.Checked.{Checked}
use Rattle.gltf_json_record.specs.declared.validation.Checked.TheVariants.{Invalid, Valid}
use Rattle.gltf_handles.specs.declared.accessor.sparse.IndexType.{IndexType}
use Rattle.gltf_handles.specs.Sizes.{Means, code_of, index_type, index_size, stored_size}
use Rattle.gltf_handles.specs.Buffers.{IsView}
use Rattle.gltf_handles.specs.Members.{Follows}
use Rattle.gltf_data.specs.Parts.{Part, part_of, items_in, view_at, base_part, index_part}
use Rattle.gltf_data.specs.Parts.{value_part, index_items, part_items, base_items}
use Rattle.gltf_data.specs.declared.unreadable.Part as part
use Rattle.gltf_data.specs.declared.unreadable.Part.TheVariants.{Items, SparseIndices}
use Rattle.gltf_data.specs.declared.unreadable.Unreadable.{Unreadable}
use Rattle.gltf_data.specs.Unreadable.{Condition, part_conditions, viewed_conditions}
use Rattle.gltf_data.specs.Unreadable.{base_conditions}
use Rattle.gltf_data.specs.Answers.{Results, ReadsAny}
use Rattle.gltf_data.proofs.Conditions.{mapped}

module _ {X : Type 0} {Gives : Results} {r : Root} (value : List ℕ → X) {p : Part}
    {result : Result (List X) Unreadable} (which : part.Part) where
  pub whole : (part : Option Part) → part ≡ Some p
      → ReadsAny Gives r (Some p) (viewed_conditions which (Some p)) (part_items value (Some p))
      result
      → ReadsAny Gives r part (viewed_conditions which part) (part_items value part) result
  whole part is h =
      subst (λ part. ReadsAny Gives r part (viewed_conditions which part) (part_items value part)
      result) (sym is) h

-- a base that is there
pub base_whole : {X : Type 0} {Gives : Results} {r : Root} (value : List ℕ → X) {p : Part}
    {result : Result (List X) Unreadable} (part : Option Part) (count : ℕ)
    (out : Result (Option (List X)) Unreadable) → part ≡ Some p
    → out ≡ result_map_both (λ x. Some x) (λ e. e) result
    → ReadsAny Gives r (Some p) (viewed_conditions Items (Some p)) (part_items value (Some p))
    result
    → ReadsAny Gives r part (base_conditions count part) (base_items value part) out
base_whole {Gives = Gives} {r = r} value {p = p} part count out is out_is h =
    let at_view : ReadsAny Gives r (Some p) (base_conditions count (Some p))
    (base_items value (Some p)) out =
    record {
      answer = h.answer;
      answered = h.answered;
      outcome =
          out_is
          ∙ ap (λ result. result_map_both (λ x. Some x) (λ e. e) result) h.outcome
          ∙ mapped (λ x. Some x) (part_conditions Items p h.answer) (items_in value p h.answer);
    } in
    subst (λ part. ReadsAny Gives r part (base_conditions count part) (base_items value part) out)
    (sym is) at_view

-- in the document of a handle
pub in_document : {Y : Type 0} {Gives : Results} {part : Option Part}
    {conditions : Option (List ℕ) → List Condition} {read : Option (List ℕ) → Y}
    {result : Result Y Unreadable} (d r : Root) → d ≡ r
    → ReadsAny Gives d part conditions read result → ReadsAny Gives r part conditions read result
in_document {Gives = Gives} {part = part} {conditions = conditions} {read = read}
    {result = result} d r is h = subst (λ d. ReadsAny Gives d part conditions read result) is h

pub value_part_is : (size : ℕ) (r : Root) (s : Sparse) (v : View) (offset count : ℕ)
    → view_at r s.values.buffer_view ≡ Some v → offset ≡ s.values.byte_offset → count ≡ s.count
    → value_part size r s ≡ Some (part_of v offset count size)
value_part_is size r s v offset count at o n = rw (at, o, n) refl

pub index_part_is : (r : Root) (s : Sparse) (v : View) (offset count size : ℕ)
    → view_at r s.indices.buffer_view ≡ Some v → offset ≡ s.indices.byte_offset → count ≡ s.count
    → size ≡ stored_size s.indices → index_part r s ≡ Some (part_of v offset count size)
index_part_is r s v offset count size at o n z = rw (at, o, n, z) refl

view_is : (r : Root) (o : Option ℕ) (v : ViewHandle Root valid.ghosts)
    → Follows (IsView r) o (Some v)
    → (option_and_then (view_at r) o ≡ Some v.inner.json.now) × (v.inner.document.now ≡ r)
view_is r None v h = absurd h
view_is r (Some i) v h = (h.json, h.document)

pub base_part_is : (size : ℕ) (r : Root) (a : Accessor) (v : ViewHandle Root valid.ghosts)
    (offset count : ℕ)
    → Follows (IsView r) a.buffer_view (Some v) → offset ≡ unwrap_or a.byte_offset 0
    → count ≡ a.count → (base_part size r a ≡ Some (part_of v.inner.json.now offset count size))
    × (v.inner.document.now ≡ r)
base_part_is size r a v offset count follows o n =
    let view = view_is r a.buffer_view v follows in
    (rw (view.0, o, n) refl, view.1)

size_is : (code : Checked _) (meaning : IndexType) → Means index_type code meaning
    → index_size meaning ≡ code_of (λ c. index_size (index_type c)) code
size_is Invalid meaning h = absurd h
size_is (Valid c) meaning h = ap index_size h

pub indices_whole : {Gives : Results} {r : Root} {result : Result (List ℕ) Unreadable} (s : Sparse)
    (v : View) (offset count : ℕ) (meaning : IndexType)
    → view_at r s.indices.buffer_view ≡ Some v
    → offset ≡ s.indices.byte_offset → count ≡ s.count
    → Means index_type s.indices.component_type meaning
    → ReadsAny Gives r (Some (part_of v offset count (index_size meaning)))
    (viewed_conditions SparseIndices (Some (part_of v offset count (index_size meaning))))
    (part_items (little_number (index_size meaning))
    (Some (part_of v offset count (index_size meaning)))) result
    → ReadsAny Gives r (index_part r s) (viewed_conditions SparseIndices (index_part r s))
    (index_items r s) result
indices_whole {Gives = Gives} {r = r} {result = result} s v offset count meaning at o n is h =
    let same : index_size meaning ≡ stored_size s.indices =
    size_is s.indices.component_type meaning is in
    let sized : ReadsAny Gives r (Some (part_of v offset count (stored_size s.indices)))
    (viewed_conditions SparseIndices (Some (part_of v offset count (stored_size s.indices))))
    (part_items (little_number (stored_size s.indices))
    (Some (part_of v offset count (stored_size s.indices)))) result =
    subst (λ size. ReadsAny Gives r (Some (part_of v offset count size))
    (viewed_conditions SparseIndices (Some (part_of v offset count size)))
    (part_items (little_number size) (Some (part_of v offset count size))) result)
    same h in
    whole (little_number (stored_size s.indices)) SparseIndices (index_part r s)
    (index_part_is r s v offset count (stored_size s.indices) at o n refl) sized
