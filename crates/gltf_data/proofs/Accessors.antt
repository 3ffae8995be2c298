-- From the parts of an accessor (base, stored indices, values) to the whole: for the contracts of
-- `sparse_items`, `read` and `try_new`. Each exit is at the first part that cannot be read, with
-- what the closure answered up to there, or has the items. All rest on what the outcome of a part
-- says.
use Rattle.std.proofs.Common.{◌≡◌, ℕ, List, ◌++◌, length, sym, ap, ◌∙◌, subst, refl}
use Rattle.std.specs.Prelude.{Option, Some, None, Result, Ok, Err, true, false, ◌==◌}
use Rattle.std.specs.Option.{option_map}
use Rattle.std.proofs.lemmas.Bool.{eq-eqb, ne_eqb}
use Rattle.std.proofs.lemmas.List.FromFn.{length-map-range_with_len}
use Rattle.byteorder.specs.Endian.{little_number}
use Rattle.gltf_json.specs.declared.root.Root.{Root}
use Rattle.gltf_json_geometry.specs.declared.buffer.View.{View}
use Rattle.gltf_json_geometry.specs.declared.accessor.Accessor.{Accessor}
use Rattle.gltf_json_geometry.specs.declared.accessor.sparse.Sparse.{Sparse}
use Rattle.gltf_items.specs.Sparse.{sparse}
use Rattle.gltf_items.specs.declared.item.Item.{Ghosts}
use Rattle.gltf_rules.specs.contracts.records.ValidRecords.TheImpl as valid
use Rattle.gltf_handles.specs.declared.accessor.sparse.Sparse.{Sparse as SparseHandle}
use Rattle.gltf_handles.specs.Accessors.{IsSparse}
use Rattle.gltf_handles.specs.Members.{Follows}
use Rattle.gltf_handles.specs.Sizes.{item_size, stored_size}
use Rattle.gltf_data.specs.Parts.{Part, part_of, FitsIn, items_in, addressed, view_at, base_part}
use Rattle.gltf_data.specs.Parts.{index_part, value_part, index_items, part_items, base_items}
use Rattle.gltf_data.specs.Parts.{PartReadable, BaseReadable, Answers, items, items_with}
use Rattle.gltf_data.specs.declared.unreadable.Part.TheVariants.{Items, SparseIndices}
use Rattle.gltf_data.specs.declared.unreadable.Part.TheVariants.{SparseValues}
use Rattle.gltf_data.specs.declared.unreadable.Unreadable.{Unreadable}
use Rattle.gltf_data.specs.declared.unreadable.Unreadable.TheVariants.{ItemSize}
use Rattle.gltf_data.specs.Unreadable.{Condition, where_all_hold, viewed_conditions}
use Rattle.gltf_data.specs.Unreadable.{base_conditions, parts_conditions}
use Rattle.gltf_data.specs.Answers.{Results, ReadsAny, ReadsParts, Tries}
use Rattle.gltf_data.proofs.Conditions.{AllHold, all_hold, held, not_held, skipped, stops_before}
use Rattle.gltf_data.proofs.Conditions.{same_reason, passed, stopped}
use Rattle.gltf_data.proofs.Readables.{base_holds, viewed_holds, viewed_fits}

-- ---- how many items a part has

length-addressed : {X : Type 0} (value : List ℕ → X) (p : Part) (bytes : List ℕ)
    → length (addressed value p bytes) ≡ p.count
unfolding addressed
length-addressed value p bytes = length-map-range_with_len _ 0 p.count

length-in : {X : Type 0} (value : List ℕ → X) (p : Part) (bytes : Option (List ℕ)) → FitsIn p bytes
    → length (items_in value p bytes) ≡ p.count
length-in value p None h = absurd h
length-in value p (Some bytes) h = length-addressed value p bytes

length-part : {X : Type 0} (value : List ℕ → X) (view : Option View) (offset count size : ℕ)
    (bytes : Option (List ℕ)) → PartReadable
    (option_map (λ v. part_of v offset count size) view) bytes
    → length (part_items value (option_map (λ v. part_of v offset count size) view) bytes) ≡ count
length-part value None offset count size bytes h = absurd h
length-part value (Some v) offset count size bytes h =
    length-in value (part_of v offset count size) bytes h

-- ---- what an answer says

module _ {Y : Type 0} {Gives : Results} {r : Root} {part : Option Part}
    {conditions : Option (List ℕ) → List Condition} {read : Option (List ℕ) → Y}
    {out : Result Y Unreadable} (h : ReadsAny Gives r part conditions read out) where
  found : (x : Y) → out ≡ Ok x → AllHold (conditions h.answer) × (x ≡ read h.answer)
  found x is = all_hold (conditions h.answer) (read h.answer) x (sym h.outcome ∙ is)

  stops : (e : Unreadable) → out ≡ Err e
      → where_all_hold (conditions h.answer) (read h.answer) ≡ Err e
  stops e is = sym h.outcome ∙ is

  failed : (e : Unreadable) → out ≡ Err e → ¬ (AllHold (conditions h.answer))
  failed e is = not_held (conditions h.answer) (read h.answer) e (stops e is)

-- ---- the parts of a sparse accessor

-- how each part was read
abbrev ReadsBase : {X : Type 0} → Results → Ghosts X → Root → Accessor
    → Result (Option (List X)) Unreadable → Type 0
ReadsBase Gives t r a out =
    ReadsAny Gives r (base_part t.size r a) (base_conditions a.count (base_part t.size r a))
    (base_items t.value (base_part t.size r a)) out

abbrev ReadsIndices : Results → Root → Sparse → Result (List ℕ) Unreadable → Type 0
ReadsIndices Gives r s out =
    ReadsAny Gives r (index_part r s) (viewed_conditions SparseIndices (index_part r s))
    (index_items r s) out

abbrev ReadsValues : {X : Type 0} → Results → ℕ → (List ℕ → X) → Root → Sparse
    → Result (List X) Unreadable → Type 0
ReadsValues Gives size value r s out =
    ReadsAny Gives r (value_part size r s) (viewed_conditions SparseValues (value_part size r s))
    (part_items value (value_part size r s)) out

module _ {X : Type 0} {Gives : Results} (t : Ghosts X) (r : Root) (a : Accessor) (s : Sparse)
    (result : Result (List X) Unreadable) {bases : Result (Option (List X)) Unreadable}
    (b : ReadsBase Gives t r a bases) where
  pub no_base : (e : Unreadable) → bases ≡ Err e → result ≡ Err e
      → ReadsParts Gives t r a (Some s) result
  no_base e none is =
      let answers : Answers = record { base = b.answer; indices = None; values = None } in
      let not_ready : ¬ (BaseReadable a.count (base_part t.size r a) b.answer) =
      λ ready. failed b e none (base_holds a.count (base_part t.size r a) b.answer ready) in
      record {
        answers = answers;
        asked = record {
          base = b.answered;
          indices = λ ready. absurd (not_ready ready);
          values = λ ready _. absurd (not_ready ready);
        };
        outcome =
            is ∙ sym (stops_before (base_conditions a.count (base_part t.size r a) b.answer)
            (viewed_conditions SparseIndices (index_part r s) None
            ++ viewed_conditions SparseValues (value_part t.size r s) None)
            (base_items t.value (base_part t.size r a) b.answer)
            (items_with t r a (Some s) answers) e (stops b e none));
      }

  module _ {indices : Result (List ℕ) Unreadable} (i : ReadsIndices Gives r s indices)
      (bs : Option (List X)) (base_is : bases ≡ Ok bs) where
    pub no_indices : (e : Unreadable) → indices ≡ Err e → result ≡ Err e
        → ReadsParts Gives t r a (Some s) result
    no_indices e none is =
        let answers : Answers = record { base = b.answer; indices = i.answer; values = None } in
        let not_ready : ¬ (PartReadable (index_part r s) i.answer) =
        λ ready. failed i e none (viewed_holds SparseIndices (index_part r s) i.answer ready) in
        let others : List Condition = viewed_conditions SparseIndices (index_part r s) i.answer
        ++ viewed_conditions SparseValues (value_part t.size r s) None in
        record {
          answers = answers;
          asked = record {
            base = b.answered;
            indices = λ _. i.answered;
            values = λ _ ready. absurd (not_ready ready);
          };
          outcome =
              is ∙ sym (skipped (base_conditions a.count (base_part t.size r a) b.answer) others
              (items_with t r a (Some s) answers) (found b bs base_is).0
              ∙ stops_before (viewed_conditions SparseIndices (index_part r s) i.answer)
              (viewed_conditions SparseValues (value_part t.size r s) None)
              (index_items r s i.answer)
              (items_with t r a (Some s) answers) e (stops i e none));
        }

    module _ {values : Result (List X) Unreadable} (v : ReadsValues Gives t.size t.value r s values)
        (is : List ℕ) (indices_are : indices ≡ Ok is) where
      abbrev all_answers : Answers
      all_answers = record { base = b.answer; indices = i.answer; values = v.answer }

      to_values : {Y : Type 0} (y : Y)
          → where_all_hold (parts_conditions t.size r a (Some s) all_answers) y
          ≡ where_all_hold (viewed_conditions SparseValues (value_part t.size r s) v.answer) y
      to_values y =
          skipped (base_conditions a.count (base_part t.size r a) b.answer)
          (viewed_conditions SparseIndices (index_part r s) i.answer
          ++ viewed_conditions SparseValues (value_part t.size r s) v.answer) y
          (found b bs base_is).0
          ∙ skipped (viewed_conditions SparseIndices (index_part r s) i.answer)
          (viewed_conditions SparseValues (value_part t.size r s) v.answer) y
          (found i is indices_are).0

      pub no_values : (e : Unreadable) → values ≡ Err e → result ≡ Err e
          → ReadsParts Gives t r a (Some s) result
      no_values e none result_is = record {
        answers = all_answers;
        asked = record {
          base = b.answered;
          indices = λ _. i.answered;
          values = λ _ _. v.answered;
        };
        outcome =
            result_is
            ∙ sym (to_values (items_with t r a (Some s) all_answers)
            ∙ same_reason (viewed_conditions SparseValues (value_part t.size r s) v.answer)
            (part_items t.value (value_part t.size r s) v.answer)
            (items_with t r a (Some s) all_answers) e (stops v e none));
      }

      pub all_read : (vs : List X) → values ≡ Ok vs
          → result ≡ Ok (sparse t.zero_item bs a.count is vs)
          → ReadsParts Gives t r a (Some s) result
      all_read vs values_are result_is =
          let base = found b bs base_is in
          let stored = found i is indices_are in
          let over = found v vs values_are in
          let same : sparse t.zero_item bs a.count is vs ≡ items_with t r a (Some s) all_answers =
          ap (λ x. sparse t.zero_item x a.count is vs) base.1
          ∙ ap (λ x. sparse t.zero_item (base_items t.value (base_part t.size r a) b.answer)
          a.count x vs) stored.1 ∙ ap (λ x. sparse t.zero_item
          (base_items t.value (base_part t.size r a) b.answer) a.count (index_items r s i.answer) x)
          over.1 in
          record {
            answers = all_answers;
            asked = record {
              base = b.answered;
              indices = λ _. i.answered;
              values = λ _ _. v.answered;
            };
            outcome =
                result_is ∙ ap Ok same
                ∙ sym (to_values (items_with t r a (Some s) all_answers)
                ∙ held (viewed_conditions SparseValues (value_part t.size r s) v.answer)
                (items_with t r a (Some s) all_answers) over.0);
          }

pub length-indices : {Gives : Results} {r : Root} {indices : Result (List ℕ) Unreadable}
    (s : Sparse)
    → ReadsIndices Gives r s indices → (is : List ℕ) → indices ≡ Ok is → length is ≡ s.count
length-indices {r = r} s i is eq =
    let stored = found i is eq in
    ap (λ (xs : List ℕ). length xs) stored.1
    ∙ length-part (little_number (stored_size s.indices))
    (view_at r s.indices.buffer_view) s.indices.byte_offset s.count
    (stored_size s.indices) i.answer
    (viewed_fits SparseIndices (index_part r s) i.answer stored.0)

pub indices_in : {Gives : Results} {indices : Result (List ℕ) Unreadable} (s : Sparse) (d r : Root)
    → d ≡ r → ReadsIndices Gives d s indices → ReadsIndices Gives r s indices
indices_in {Gives = Gives} {indices = indices} s d r is h =
    subst (λ d. ReadsIndices Gives d s indices) is h

pub values_in : {X : Type 0} {Gives : Results} {values : Result (List X) Unreadable} (size : ℕ)
    (value : List ℕ → X) (s : Sparse) (d r : Root) → d ≡ r
    → ReadsValues Gives size value d s values → ReadsValues Gives size value r s values
values_in {Gives = Gives} {values = values} size value s d r is h =
    subst (λ d. ReadsValues Gives size value d s values) is h

-- ---- an accessor

module _ {X : Type 0} {Gives : Results} (t : Ghosts X) (r : Root) (a : Accessor)
    (result : Result (List X) Unreadable) where
  pub other_size : ¬ (t.size ≡ item_size a) → result ≡ Err (ItemSize t.size (item_size a))
      → Tries Gives t r a result
  other_size differ is =
      let answers : Answers = record { base = None; indices = None; values = None } in
      let fails : (t.size == item_size a) ≡ false = ne_eqb t.size (item_size a) differ in
      record {
        answers = answers;
        asked = λ same. absurd (differ same);
        outcome =
            is
            ∙ sym (stopped (t.size == item_size a, ItemSize t.size (item_size a))
            (parts_conditions t.size r a a.sparse answers) (items t r a answers) fails);
      }

  pub right_size : {s : Option Sparse} {out : Result (List X) Unreadable} → t.size ≡ item_size a
      → a.sparse ≡ s → ReadsParts Gives t r a s out → result ≡ out → Tries Gives t r a result
  right_size {out = out} same is h result_is =
      let parts : ReadsParts Gives t r a a.sparse out =
      subst (λ s. ReadsParts Gives t r a s out) (sym is) h in
      let holds : (t.size == item_size a) ≡ true = eq-eqb t.size (item_size a) same in
      record {
        answers = parts.answers;
        asked = λ _. parts.asked;
        outcome =
            result_is ∙ parts.outcome
            ∙ sym (passed (t.size == item_size a, ItemSize t.size (item_size a))
            (parts_conditions t.size r a a.sparse parts.answers) (items t r a parts.answers) holds);
      }

pub plain_read : {X : Type 0} {Gives : Results} (t : Ghosts X) (r : Root) (a : Accessor)
    {out : Result (List X) Unreadable} → ReadsAny Gives r (base_part t.size r a)
    (viewed_conditions Items (base_part t.size r a)) (part_items t.value (base_part t.size r a)) out
    → ReadsParts Gives t r a None out
plain_read t r a h = record {
  answers = record { base = h.answer; indices = None; values = None };
  asked = h.answered;
  outcome = h.outcome;
}

pub no_sparse : (r : Root) (o : Option Sparse) → Follows (IsSparse {G = valid.ghosts} r) o None
    → o ≡ None
no_sparse r None h = refl
no_sparse r (Some s) h = absurd h

pub sparse_is : (r : Root) (o : Option Sparse) (s : SparseHandle Root valid.ghosts)
    → Follows (IsSparse r) o (Some s) → o ≡ Some s.inner.json.now
sparse_is r None s h = absurd h
sparse_is r (Some x) s h = ap Some (sym h.json)
