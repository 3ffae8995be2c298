-- Names of extensions in a list.
use Rattle.std.specs.Prelude.{ℕ, Bool, List, map}
use Rattle.std.specs.BTreeSet.{contains_text}
use Rattle.std.specs.String.{string_bytes}
use Rattle.std.specs.declared.string.String.{String}
use Rattle.std.specs.declared.alloc.Global.{Global}
use Rattle.gltf_json_record.specs.Member.{is_one_of}
use Rattle.gltf_inspect_meshes.specs.declared.names.NameSet.{NameSet}

-- the name is one of these
abbrev pub is_among : List (String Global) → List ℕ → Bool
is_among names name = is_one_of (map (λ n. string_bytes n) names) name

-- the set has the name
abbrev pub has_name : NameSet → List ℕ → Bool
has_name set name = contains_text set.names name
