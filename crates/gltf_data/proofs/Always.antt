-- A closure that answers one buffer always alike.
use Rattle.std.proofs.Common.{◌≡◌, ℕ, List, [], ◌∷◌, ◌++◌, sym, ap, ◌∙◌, subst, refl}
use Rattle.std.specs.Prelude.{Option, Some, None, SomeIff, Result, Ok, Err, ◌==◌}
use Rattle.std.specs.Option.{option_map}
use Rattle.std.specs.Result.{result_ok, result_map_both}
use Rattle.std.proofs.lemmas.Bool.{eqb-true}
use Rattle.gltf_json.specs.declared.root.Root.{Root}
use Rattle.gltf_json_geometry.specs.declared.accessor.Accessor.{Accessor}
use Rattle.gltf_json_geometry.specs.declared.accessor.sparse.Sparse.{Sparse}
use Rattle.gltf_handles.specs.Sizes.{item_size}
use Rattle.gltf_items.specs.declared.item.Item.{Ghosts}
use Rattle.gltf_items.specs.Sparse.{sparse}
use Rattle.gltf_data.specs.Parts.{Part, Answers, base_part, index_part, value_part, index_items}
use Rattle.gltf_data.specs.Parts.{part_items, base_items, PartReadable, BaseReadable, PartsReadable}
use Rattle.gltf_data.specs.Parts.{items_with, items}
use Rattle.gltf_data.specs.declared.unreadable.Part as part
use Rattle.gltf_data.specs.declared.unreadable.Part.TheVariants.{Items, SparseIndices}
use Rattle.gltf_data.specs.declared.unreadable.Part.TheVariants.{SparseValues}
use Rattle.gltf_data.specs.declared.unreadable.Unreadable.{Unreadable}
use Rattle.gltf_data.specs.declared.unreadable.Unreadable.TheVariants.{ItemSize}
use Rattle.gltf_data.specs.Unreadable.{where_all_hold, part_conditions, viewed_conditions}
use Rattle.gltf_data.specs.Unreadable.{base_conditions, parts_conditions, conditions}
use Rattle.gltf_data.specs.Answers.{Results, IsAnswered, IsAnsweredFor, ArePartsAsked, Reads}
use Rattle.gltf_data.specs.Answers.{AlwaysAnswers, answer_for, answers_with, answers_by, ReadsAlike}
use Rattle.gltf_data.specs.Answers.{Tries, TriesAlike}
use Rattle.gltf_data.proofs.Conditions.{agree, same_where_held, some_where_held}
use Rattle.gltf_data.proofs.Readables.{base_fits, viewed_fits, readable_from, conditions_hold}

module _ {Gives : Results} {r : Root} {answer : ℕ → Option (List ℕ)}
    (always : AlwaysAnswers Gives r answer) where
  same_answer : {i : ℕ} {bytes : Option (List ℕ)} → IsAnswered Gives r i bytes → bytes ≡ answer i
  same_answer {i = i} h = sym h.is_answer ∙ always h.buffer h.given i h.is_buffer h.result

  -- what is said of a part by its answer
  part_alike : (part : Option Part) (bytes : Option (List ℕ)) → IsAnsweredFor Gives r part bytes
      → (PartReadable part bytes → PartReadable part (answer_for answer part))
      × (PartReadable part (answer_for answer part) → PartReadable part bytes)
  part_alike None bytes h = (λ x. x, λ x. x)
  part_alike (Some p) bytes h = (
    λ x. subst (λ b. PartReadable (Some p) b) (same_answer h) x,
    λ x. subst (λ b. PartReadable (Some p) b) (sym (same_answer h)) x,
  )

  part_same : {X : Type 0} (value : List ℕ → X) (part : Option Part) (bytes : Option (List ℕ))
      → IsAnsweredFor Gives r part bytes
      → part_items value part bytes ≡ part_items value part (answer_for answer part)
  part_same value None bytes h = refl
  part_same value (Some p) bytes h = ap (λ b. part_items value (Some p) b) (same_answer h)

  base_alike : (count : ℕ) (part : Option Part) (bytes : Option (List ℕ))
      → IsAnsweredFor Gives r part bytes
      → (BaseReadable count part bytes → BaseReadable count part (answer_for answer part))
      × (BaseReadable count part (answer_for answer part) → BaseReadable count part bytes)
  base_alike count None bytes h = (λ x. x, λ x. x)
  base_alike count (Some p) bytes h = (
    λ x. subst (λ b. BaseReadable count (Some p) b) (same_answer h) x,
    λ x. subst (λ b. BaseReadable count (Some p) b) (sym (same_answer h)) x,
  )

  base_same : {X : Type 0} (value : List ℕ → X) (part : Option Part) (bytes : Option (List ℕ))
      → IsAnsweredFor Gives r part bytes
      → base_items value part bytes ≡ base_items value part (answer_for answer part)
  base_same value None bytes h = refl
  base_same value (Some p) bytes h = ap (λ b. base_items value (Some p) b) (same_answer h)

  parts_to : (size : ℕ) (a : Accessor) (s : Option Sparse) (o : Answers)
      → ArePartsAsked Gives size r a s o → PartsReadable size r a s o
      → PartsReadable size r a s (answers_with answer size r a s)
  parts_to size a None o asked h = (part_alike (base_part size r a) o.base asked).0 h
  parts_to size a (Some s) o asked h =
      record {
        base = (base_alike a.count (base_part size r a) o.base asked.base).0 h.base;
        indices = (part_alike (index_part r s) o.indices (asked.indices h.base)).0 h.indices;
        values =
            (part_alike (value_part size r s) o.values (asked.values h.base h.indices)).0 h.values;
      }

  parts_from : (size : ℕ) (a : Accessor) (s : Option Sparse) (o : Answers)
      → ArePartsAsked Gives size r a s o → PartsReadable size r a s (answers_with answer size r a s)
      → PartsReadable size r a s o
  parts_from size a None o asked h = (part_alike (base_part size r a) o.base asked).1 h
  parts_from size a (Some s) o asked h =
      let base : BaseReadable a.count (base_part size r a) o.base =
      (base_alike a.count (base_part size r a) o.base asked.base).1 h.base in
      let indices : PartReadable (index_part r s) o.indices =
      (part_alike (index_part r s) o.indices (asked.indices base)).1 h.indices in
      record {
        base = base;
        indices = indices;
        values = (part_alike (value_part size r s) o.values (asked.values base indices)).1 h.values;
      }

  items_same : {X : Type 0} (t : Ghosts X) (a : Accessor) (s : Option Sparse) (o : Answers)
      → ArePartsAsked Gives t.size r a s o → PartsReadable t.size r a s o
      → items_with t r a s o ≡ items_with t r a s (answers_with answer t.size r a s)
  items_same t a None o asked h = part_same t.value (base_part t.size r a) o.base asked
  items_same t a (Some s) o asked h =
      ap (λ x. sparse t.zero_item x a.count (index_items r s o.indices)
      (part_items t.value (value_part t.size r s) o.values))
      (base_same t.value (base_part t.size r a) o.base asked.base)
      ∙ ap (λ x. sparse t.zero_item (base_items t.value (base_part t.size r a)
      (answer_for answer (base_part t.size r a))) a.count x
      (part_items t.value (value_part t.size r s) o.values))
      (part_same _ (index_part r s) o.indices (asked.indices h.base))
      ∙ ap (λ x. sparse t.zero_item (base_items t.value (base_part t.size r a)
      (answer_for answer (base_part t.size r a))) a.count
      (index_items r s (answer_for answer (index_part r s))) x)
      (part_same t.value (value_part t.size r s) o.values (asked.values h.base h.indices))

  -- the conditions by an answer
  viewed_same : (which : part.Part) (part : Option Part) (bytes : Option (List ℕ))
      → IsAnsweredFor Gives r part bytes
      → viewed_conditions which part bytes ≡ viewed_conditions which part (answer_for answer part)
  viewed_same which None bytes h = refl
  viewed_same which (Some p) bytes h = ap (λ b. part_conditions which p b) (same_answer h)

  base_conditions_same : (count : ℕ) (part : Option Part) (bytes : Option (List ℕ))
      → IsAnsweredFor Gives r part bytes
      → base_conditions count part bytes ≡ base_conditions count part (answer_for answer part)
  base_conditions_same count None bytes h = refl
  base_conditions_same count (Some p) bytes h = ap (λ b. part_conditions Items p b) (same_answer h)

  -- what they report, or that all hold
  parts_agree : {Y : Type 0} (size : ℕ) (a : Accessor) (s : Option Sparse) (o : Answers) (y : Y)
      → ArePartsAsked Gives size r a s o
      → where_all_hold (parts_conditions size r a s o) y
      ≡ where_all_hold (parts_conditions size r a s (answers_with answer size r a s)) y
  parts_agree size a None o y asked =
      ap (λ cs. where_all_hold cs y) (viewed_same Items (base_part size r a) o.base asked)
  parts_agree size a (Some s) o y asked =
      let base = base_conditions a.count (base_part size r a) o.base in
      let indices = viewed_conditions SparseIndices (index_part r s) o.indices in
      let values = viewed_conditions SparseValues (value_part size r s) o.values in
      let same_indices =
      viewed_conditions SparseIndices (index_part r s) (answer_for answer (index_part r s)) in
      let same_values =
      viewed_conditions SparseValues (value_part size r s)
      (answer_for answer (value_part size r s)) in
      agree base (indices ++ values) (same_indices ++ same_values) y (λ all.
      let ready = base_fits a.count (base_part size r a) o.base all in
      agree indices values same_values y (λ hold. ap (λ cs. where_all_hold cs y)
      (viewed_same SparseValues (value_part size r s) o.values
      (asked.values ready (viewed_fits SparseIndices (index_part r s) o.indices hold))))
      ∙ ap (λ cs. where_all_hold (cs ++ same_values) y)
      (viewed_same SparseIndices (index_part r s) o.indices (asked.indices ready)))
      ∙ ap (λ cs. where_all_hold (cs ++ (same_indices ++ same_values)) y)
      (base_conditions_same a.count (base_part size r a) o.base asked.base)

pub same_where : {X P Q : Type 0} (v w : X) (out : Option X) → (P → Q) → (Q → P) → (P → v ≡ w)
    → SomeIff out P v → SomeIff out Q w
same_where v w None to from is h = λ q. h (from q)
same_where v w (Some x) to from is h = (to h.0, h.1 ∙ is h.0)

pub reads_alike : {X : Type 0} {Gives : Results} (t : Ghosts X) (r : Root) (a : Accessor)
    (result : Option (List X)) → Reads Gives t r a result → ReadsAlike Gives t r a result
reads_alike t r a result h answer always =
    same_where (items t r a h.answers) (items t r a (answers_by answer t.size r a)) result
    (λ ready. record {
      same_size = ready.same_size;
      parts = parts_to always t.size a a.sparse h.answers (h.asked ready.same_size) ready.parts;
    })
    (λ ready. record {
      same_size = ready.same_size;
      parts = parts_from always t.size a a.sparse h.answers (h.asked ready.same_size) ready.parts;
    })
    (λ ready. items_same always t a a.sparse h.answers (h.asked ready.same_size) ready.parts)
    h.exactly

pub tries_alike : {X : Type 0} {Gives : Results} (t : Ghosts X) (r : Root) (a : Accessor)
    (result : Result (List X) Unreadable) → Tries Gives t r a result → TriesAlike Gives t r a result
tries_alike t r a result h answer always =
    let same_items = items t r a (answers_by answer t.size r a) in
    h.outcome
    ∙ same_where_held (conditions t.size r a h.answers) (items t r a h.answers) same_items
    (λ all. let ready = readable_from t.size r a h.answers all in
    items_same always t a a.sparse h.answers (h.asked ready.same_size) ready.parts)
    ∙ agree ((t.size == item_size a, ItemSize t.size (item_size a)) ∷ [])
    (parts_conditions t.size r a a.sparse h.answers)
    (parts_conditions t.size r a a.sparse (answers_by answer t.size r a)) same_items
    (λ hold. parts_agree always t.size a a.sparse h.answers same_items
    (h.asked (eqb-true t.size (item_size a) hold.0)))

-- what was read, without the reason
pub reads_from : {X I : Type 0} {Gives : Results} (shown : I → List X) (t : Ghosts X) (r : Root)
    (a : Accessor) (out : Result I Unreadable)
    → Tries Gives t r a (result_map_both shown (λ e. e) out)
    → Reads Gives t r a (option_map shown (result_ok out))
reads_from shown t r a (Ok it) h = record {
  answers = h.answers;
  asked = h.asked;
  exactly =
      some_where_held (conditions t.size r a h.answers) (items t r a h.answers) (Ok (shown it))
      h.outcome (readable_from t.size r a h.answers) (conditions_hold t.size r a h.answers);
}
reads_from shown t r a (Err e) h = record {
  answers = h.answers;
  asked = h.asked;
  exactly =
      some_where_held (conditions t.size r a h.answers) (items t r a h.answers) (Err e)
      h.outcome (readable_from t.size r a h.answers) (conditions_hold t.size r a h.answers);
}
