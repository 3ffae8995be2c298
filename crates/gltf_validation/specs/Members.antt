-- The rules of indices, codes, sizes, members that may be absent, and lists.
use Rattle.std.specs.Prelude.{ℕ, ◌+◌, ◌^◌, Bool, false, nat_lt, List, [], ◌∷◌, Option, Some, None}
use Rattle.std.specs.Prelude.{is_some, not, ◌||◌}
use Rattle.gltf_json_record.specs.Place.{named, numbered}
use Rattle.gltf_json_record.specs.declared.validation.Checked.{Checked}
use Rattle.gltf_json_record.specs.declared.validation.Checked.TheVariants as code
use Rattle.gltf_validation.specs.declared.error.Error.TheVariants.{IndexOutOfBounds, Invalid}
use Rattle.gltf_validation.specs.declared.error.Error.TheVariants.{Missing, Oversize}
use Rattle.gltf_validation.specs.Rules.{Rules, Nothing, Condition, At, ◌&◌}

-- the rules of what stands at a member
abbrev pub member : List ℕ → Rules → Rules
member name rules = At (named name) rules

-- an index is below the length of its list
abbrev pub index_rules : ℕ → ℕ → Rules
index_rules count i = Condition (nat_lt i count) IndexOutOfBounds

-- a code is in its table
abbrev pub code_rules : {T : Type 0} → Checked T → Rules
code_rules code.Invalid = Condition false Invalid
code_rules (code.Valid _) = Nothing

-- a size fits in 64 bits
abbrev pub size_rules : ℕ → Rules
size_rules size = Condition (nat_lt size (2 ^ 64)) Oversize

-- a member is there, where it has to be
abbrev pub needed_rules : {T : Type 0} → Bool → Option T → Rules
needed_rules is_needed member = Condition (not is_needed || is_some member) Missing

abbrev pub optional_rules : {T : Type 0} → (T → Rules) → Option T → Rules
optional_rules rules None = Nothing
optional_rules rules (Some x) = rules x

-- the elements from index i on
abbrev pub elements_rules : {T : Type 0} → (T → Rules) → ℕ → List T → Rules
elements_rules rules i [] = Nothing
elements_rules rules i (x ∷ xs) = At (numbered i) (rules x) & elements_rules rules (i + 1) xs

abbrev pub list_rules : {T : Type 0} → (T → Rules) → List T → Rules
list_rules rules xs = elements_rules rules 0 xs
