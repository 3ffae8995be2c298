-- What getters give of members.
use Rattle.std.specs.Prelude.{◌≡◌, ℕ, ◌==◌, if◌then◌else◌, ⊤, List, Option, Some, None}
use Rattle.std.specs.Option.{option_map, option_and_then}
use Rattle.std.specs.BTreeMap.{BTreeMap, get_by_text}
use Rattle.std.specs.String.{string_bytes}
use Rattle.std.specs.declared.string.String.{String}
use Rattle.std.specs.declared.alloc.Global.{Global}
use Rattle.serde_json.specs.declared.value.Value.{Value}
use Rattle.gltf_json_record.specs.declared.extensions.Others.{Others}
use Rattle.gltf_json_record.specs.declared.validation.Checked.{Checked}
use Rattle.gltf_json_record.specs.declared.validation.Checked.TheVariants.{Valid}

-- the bytes of a text, where it is there
abbrev pub text : Option (String Global) → Option (List ℕ)
text o = option_map string_bytes o

-- the extensions of a record that knows none
abbrev pub unknown_extensions : Option Others → Option (BTreeMap (String Global) Value)
unknown_extensions o = option_map (λ e. e.others) o

-- the extension of a name, where it is there
abbrev pub extension_named : List ℕ → Option (BTreeMap (String Global) Value) → Option Value
extension_named name extensions = option_and_then (λ m. get_by_text m name) extensions

-- a number, where it is there and above 0
abbrev pub above_zero : Option ℕ → Option ℕ
above_zero None = None
above_zero (Some n) = if n == 0 then None else Some n

-- what `is` says of a member and of what is given for it, or neither is there
abbrev pub Follows : {M H : Type 0} → (M → H → Type 0) → Option M → Option H → Type 0
Follows is None None = ⊤
Follows is None (Some h) = ⊥
Follows is (Some m) None = ⊥
Follows is (Some m) (Some h) = is m h

-- what `is` says of a member and of what is given for it, or `default` of what is given for none
abbrev pub FollowsOr : {M H : Type 0} → (default : H → Type 0) → (is : M → H → Type 0) → Option M
    → H → Type 0
FollowsOr default is None h = default h
FollowsOr default is (Some m) h = is m h

-- the code is in its table, with that meaning
abbrev pub IsCode : {C : Type 0} → Checked C → C → Type 0
IsCode code meaning = code ≡ Valid meaning
