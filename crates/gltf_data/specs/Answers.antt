-- What a closure that gives the bytes of buffers answered, and what was read by that.
use Rattle.std.specs.Prelude.{◌≡◌, ℕ, List, Option, Some, None, SomeIff, ⊤, Result}
use Rattle.std.specs.Option.{option_copied}
use Rattle.std.specs.Borrow.{Bor}
use Rattle.gltf_json.specs.declared.root.Root.{Root}
use Rattle.gltf_json_geometry.specs.declared.accessor.Accessor.{Accessor}
use Rattle.gltf_json_geometry.specs.declared.accessor.sparse.Sparse.{Sparse}
use Rattle.gltf_rules.specs.contracts.records.ValidRecords.TheImpl as valid
use Rattle.gltf_handles.specs.declared.buffer.Buffer.{Buffer}
use Rattle.gltf_handles.specs.Buffers.{IsBuffer}
use Rattle.gltf_handles.specs.Sizes.{item_size}
use Rattle.gltf_items.specs.declared.item.Item.{Ghosts}
use Rattle.gltf_data.specs.Parts.{Part, Answers, base_part, index_part, value_part}
use Rattle.gltf_data.specs.Parts.{BaseReadable, PartReadable, Readable, items_with, items}
use Rattle.gltf_data.specs.Unreadable.{Condition, where_all_hold, parts_conditions}
use Rattle.gltf_data.specs.Unreadable.{items_or_reason}
use Rattle.gltf_data.specs.declared.unreadable.Unreadable.{Unreadable}

-- what a closure may answer for a handle of a buffer
abbrev pub Results : Type 1
Results = Buffer Root valid.ghosts → Option (Bor (List ℕ)) → Type 0

-- it answered that for buffer i
pub record IsAnswered (Gives : Results) (r : Root) (i : ℕ) (answer : Option (List ℕ)) : Type 0 where
  pub buffer : Buffer Root valid.ghosts
  pub is_buffer : IsBuffer r i buffer
  pub given : Option (Bor (List ℕ))
  pub result : Gives buffer given
  pub is_answer : option_copied given ≡ answer

-- where there is a part, that was answered for its buffer
abbrev pub IsAnsweredFor : Results → Root → Option Part → Option (List ℕ) → Type 0
IsAnsweredFor Gives r None answer = ⊤
IsAnsweredFor Gives r (Some p) answer = IsAnswered Gives r p.view.buffer answer

-- a part, where there is one, was read by one answer: what is read where its conditions hold, else
-- what the first that fails reports
pub record ReadsAny {Y : Type 0} (Gives : Results) (r : Root) (part : Option Part)
    (conditions : Option (List ℕ) → List Condition) (read : Option (List ℕ) → Y)
    (result : Result Y Unreadable) : Type 0 where
  pub answer : Option (List ℕ)
  pub answered : IsAnsweredFor Gives r part answer
  pub outcome : result ≡ where_all_hold (conditions answer) (read answer)

-- the closure answered for the parts that were reached: the base, then the indices, then the
-- values, up to the first that can't be read
pub record IsSparseAsked (Gives : Results) (size : ℕ) (r : Root) (a : Accessor) (s : Sparse)
    (o : Answers) : Type 0 where
  pub base : IsAnsweredFor Gives r (base_part size r a) o.base
  pub indices : BaseReadable a.count (base_part size r a) o.base
      → IsAnsweredFor Gives r (index_part r s) o.indices
  pub values : BaseReadable a.count (base_part size r a) o.base
      → PartReadable (index_part r s) o.indices
      → IsAnsweredFor Gives r (value_part size r s) o.values

abbrev pub ArePartsAsked : Results → ℕ → Root → Accessor → Option Sparse → Answers → Type 0
ArePartsAsked Gives size r a None o = IsAnsweredFor Gives r (base_part size r a) o.base
ArePartsAsked Gives size r a (Some s) o = IsSparseAsked Gives size r a s o

-- none is reached where the sizes differ
abbrev pub IsAsked : Results → ℕ → Root → Accessor → Answers → Type 0
IsAsked Gives size r a o = size ≡ item_size a → ArePartsAsked Gives size r a a.sparse o

-- the parts of an accessor were read, by the answers for them
pub record ReadsParts {X : Type 0} (Gives : Results) (t : Ghosts X) (r : Root) (a : Accessor)
    (s : Option Sparse) (result : Result (List X) Unreadable) : Type 0 where
  pub answers : Answers
  pub asked : ArePartsAsked Gives t.size r a s answers
  pub outcome : result
      ≡ where_all_hold (parts_conditions t.size r a s answers) (items_with t r a s answers)

-- an accessor was read, by the answers for its parts: its items where all conditions hold, else
-- what the first that fails reports
pub record Tries {X : Type 0} (Gives : Results) (t : Ghosts X) (r : Root) (a : Accessor)
    (result : Result (List X) Unreadable) : Type 0 where
  pub answers : Answers
  pub asked : IsAsked Gives t.size r a answers
  pub outcome : result ≡ items_or_reason t r a answers

-- an accessor was read, by the answers for its parts: its items where it can be read by these, else
-- none
pub record Reads {X : Type 0} (Gives : Results) (t : Ghosts X) (r : Root) (a : Accessor)
    (result : Option (List X)) : Type 0 where
  pub answers : Answers
  pub asked : IsAsked Gives t.size r a answers
  pub exactly : SomeIff result (Readable t.size r a answers) (items t r a answers)

-- ---- a closure that answers one buffer always alike

-- that is what it answers for the buffer of each number
abbrev pub AlwaysAnswers : Results → Root → (ℕ → Option (List ℕ)) → Type 0
AlwaysAnswers Gives r answer =
    (b : Buffer Root valid.ghosts) (given : Option (Bor (List ℕ))) (i : ℕ)
    → IsBuffer r i b → Gives b given → option_copied given ≡ answer i

abbrev pub answer_for : (ℕ → Option (List ℕ)) → Option Part → Option (List ℕ)
answer_for answer None = None
answer_for answer (Some p) = answer p.view.buffer

-- the answers for the three parts
abbrev pub answers_with : (ℕ → Option (List ℕ)) → ℕ → Root → Accessor → Option Sparse → Answers
answers_with answer size r a None =
    record { base = answer_for answer (base_part size r a); indices = None; values = None }
answers_with answer size r a (Some s) =
    record {
      base = answer_for answer (base_part size r a);
      indices = answer_for answer (index_part r s);
      values = answer_for answer (value_part size r s);
    }

abbrev pub answers_by : (ℕ → Option (List ℕ)) → ℕ → Root → Accessor → Answers
answers_by answer size r a = answers_with answer size r a a.sparse

-- whatever such a closure answers, it was read by these answers
abbrev pub ReadsAlike : {X : Type 0} → Results → Ghosts X → Root → Accessor → Option (List X)
    → Type 0
ReadsAlike Gives t r a result =
    (answer : ℕ → Option (List ℕ)) → AlwaysAnswers Gives r answer
    → SomeIff result (Readable t.size r a (answers_by answer t.size r a))
    (items t r a (answers_by answer t.size r a))

abbrev pub TriesAlike : {X : Type 0} → Results → Ghosts X → Root → Accessor
    → Result (List X) Unreadable → Type 0
TriesAlike Gives t r a result =
    (answer : ℕ → Option (List ℕ)) → AlwaysAnswers Gives r answer
    → result ≡ items_or_reason t r a (answers_by answer t.size r a)
