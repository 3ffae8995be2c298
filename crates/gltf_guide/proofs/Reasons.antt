-- What fails first of the conditions of an accessor, by a closure that answers one buffer always
-- alike, and why there are no positions.
use Rattle.std.proofs.Common.{◌≡◌, ℕ, ◌+◌, List, [], ◌∷◌, ◌++◌, length, sym, ap, ◌∙◌, refl}
use Rattle.std.proofs.Common.{inl, inr}
use Rattle.std.specs.Prelude.{Option, Some, None, ⊤, true, ◌==◌, slice_get, MatchOption}
use Rattle.std.proofs.lemmas.Bool.{cases_Bool, false≢true, ltb-true, leb-true, eqb-true}
use Rattle.gltf_json.specs.declared.root.Root.{Root}
use Rattle.gltf_json_geometry.specs.declared.accessor.Accessor.{Accessor}
use Rattle.gltf_json_geometry.specs.declared.accessor.sparse.Sparse.{Sparse}
use Rattle.gltf_handles.specs.Sizes.{item_size}
use Rattle.gltf_data.specs.Answers.{Results, IsAnswered, IsAnsweredFor, ArePartsAsked, IsAsked}
use Rattle.gltf_data.specs.Answers.{AlwaysAnswers, answer_for, answers_with, answers_by}
use Rattle.gltf_data.specs.Parts.{Part, FitsIn, Answers, base_part, index_part, value_part, stride}
use Rattle.gltf_data.specs.Parts.{view_offset, PartReadable, BaseReadable}
use Rattle.gltf_data.specs.Unreadable.{Condition, where_all_hold, part_conditions, items_end}
use Rattle.gltf_data.specs.Unreadable.{viewed_conditions, base_conditions, parts_conditions}
use Rattle.gltf_data.specs.Unreadable.{conditions}
use Rattle.gltf_data.specs.declared.unreadable.Part as part
use Rattle.gltf_data.specs.declared.unreadable.Part.TheVariants.{Items, SparseIndices}
use Rattle.gltf_data.specs.declared.unreadable.Part.TheVariants.{SparseValues}
use Rattle.gltf_data.specs.declared.unreadable.Unreadable.TheVariants.{ItemSize}
use Rattle.gltf_read.specs.Kinds.{kind_of, three_floats}
use Rattle.gltf_access.specs.Why.{IsWhy, IsWhyMember, IsOfType, reason_of}
use Rattle.gltf_access.specs.declared.not_read.NotRead.{NotRead}
use Rattle.gltf_guide.specs.Bytes.{IsWhyNoPositions, first_failing}

-- ---- conditions that all hold

abbrev AllHold : List Condition → Type 0
AllHold [] = ⊤
AllHold (c ∷ cs) = (c.0 ≡ true) × AllHold cs

-- what follows conditions that hold decides
agree : {X : Type 0} (ls rs cs : List Condition) (x : X)
    → (AllHold ls → where_all_hold rs x ≡ where_all_hold cs x)
    → where_all_hold (ls ++ rs) x ≡ where_all_hold (ls ++ cs) x
agree [] rs cs x h = h tt
agree (l ∷ ls) rs cs x h =
    elim (cases_Bool l.0) [
      | inl holds ↦ rw holds (agree ls rs cs x (λ all. h (holds, all)))
      | inr fails ↦ rw fails refl
    ]

part_fits : (which : part.Part) (p : Part) (given : Option (List ℕ))
    → AllHold (part_conditions which p given) → FitsIn p given
part_fits which p None h = absurd (false≢true h.1.1.0)
part_fits which p (Some bytes) h = record {
  some = ltb-true 0 p.count h.0;
  apart = leb-true p.size (stride p.view p.size) h.1.0;
  view_within = leb-true (view_offset p.view + p.view.byte_length) (length bytes) h.1.1.1.0;
  items_within = leb-true (items_end p) p.view.byte_length h.1.1.1.1.0;
}

viewed_fits : (which : part.Part) (part : Option Part) (given : Option (List ℕ))
    → AllHold (viewed_conditions which part given) → PartReadable part given
viewed_fits which None given h = absurd (false≢true h.0)
viewed_fits which (Some p) given h = part_fits which p given h

base_fits : (count : ℕ) (part : Option Part) (given : Option (List ℕ))
    → AllHold (base_conditions count part given) → BaseReadable count part given
base_fits count None given h = ltb-true 0 count h.0
base_fits count (Some p) given h = part_fits Items p given h

-- ---- what was answered

module _ {Gives : Results} {r : Root} {answer : ℕ → Option (List ℕ)}
    (always : AlwaysAnswers Gives r answer) where
  same_answer : {i : ℕ} {bytes : Option (List ℕ)} → IsAnswered Gives r i bytes → bytes ≡ answer i
  same_answer {i = i} h = sym h.is_answer ∙ always h.buffer h.given i h.is_buffer h.result

  viewed_same : (which : part.Part) (part : Option Part) (bytes : Option (List ℕ))
      → IsAnsweredFor Gives r part bytes
      → viewed_conditions which part bytes ≡ viewed_conditions which part (answer_for answer part)
  viewed_same which None bytes h = refl
  viewed_same which (Some p) bytes h = ap (λ b. part_conditions which p b) (same_answer h)

  base_same : (count : ℕ) (part : Option Part) (bytes : Option (List ℕ))
      → IsAnsweredFor Gives r part bytes
      → base_conditions count part bytes ≡ base_conditions count part (answer_for answer part)
  base_same count None bytes h = refl
  base_same count (Some p) bytes h = ap (λ b. part_conditions Items p b) (same_answer h)

  parts_agree : {X : Type 0} (size : ℕ) (a : Accessor) (s : Option Sparse) (o : Answers) (x : X)
      → ArePartsAsked Gives size r a s o
      → where_all_hold (parts_conditions size r a s o) x
      ≡ where_all_hold (parts_conditions size r a s (answers_with answer size r a s)) x
  parts_agree size a None o x asked =
      ap (λ cs. where_all_hold cs x) (viewed_same Items (base_part size r a) o.base asked)
  parts_agree size a (Some s) o x asked =
      let base = base_conditions a.count (base_part size r a) o.base in
      let indices = viewed_conditions SparseIndices (index_part r s) o.indices in
      let values = viewed_conditions SparseValues (value_part size r s) o.values in
      let same_indices =
      viewed_conditions SparseIndices (index_part r s) (answer_for answer (index_part r s)) in
      let same_values =
      viewed_conditions SparseValues (value_part size r s)
      (answer_for answer (value_part size r s)) in
      agree base (indices ++ values) (same_indices ++ same_values) x (λ all.
      let ready = base_fits a.count (base_part size r a) o.base all in
      agree indices values same_values x (λ hold. ap (λ cs. where_all_hold cs x)
      (viewed_same SparseValues (value_part size r s) o.values
      (asked.values ready (viewed_fits SparseIndices (index_part r s) o.indices hold))))
      ∙ ap (λ cs. where_all_hold (cs ++ same_values) x)
      (viewed_same SparseIndices (index_part r s) o.indices (asked.indices ready)))
      ∙ ap (λ cs. where_all_hold (cs ++ (same_indices ++ same_values)) x)
      (base_same a.count (base_part size r a) o.base asked.base)

  -- what fails first by what was asked for is what fails first by these answers
  pub fails_alike : {X : Type 0} (size : ℕ) (a : Accessor) (o : Answers) (x : X)
      → IsAsked Gives size r a o
      → where_all_hold (conditions size r a o) x
      ≡ where_all_hold (conditions size r a (answers_by answer size r a)) x
  fails_alike size a o x asked =
      agree ((size == item_size a, ItemSize size (item_size a)) ∷ [])
      (parts_conditions size r a a.sparse o)
      (parts_conditions size r a a.sparse (answers_by answer size r a)) x
      (λ hold. parts_agree size a a.sparse o x
      (asked (eqb-true size (item_size a) hold.0)))

-- ---- why there are no positions

module _ {Gives : Results} {r : Root} (buffers : List (List ℕ))
    (always : AlwaysAnswers Gives r (slice_get buffers)) where
  by_kind : (kind : Option ℕ) (a : Accessor) (why : Option NotRead) → IsWhy Gives r a kind why
      → MatchOption kind (IsOfType a why) (λ size. why ≡ first_failing size r a buffers)
  by_kind None a why h = h
  by_kind (Some size) a why h =
      h.outcome ∙ ap reason_of (fails_alike always size a h.answers a h.asked)

  pub why_alike : (index : Option ℕ) (why : Option NotRead)
      → IsWhyMember three_floats Gives r index why → IsWhyNoPositions r buffers index why
  why_alike None why h = h
  why_alike (Some i) why h = (h.0, h.1, by_kind (kind_of three_floats h.0) h.0 why h.2)
