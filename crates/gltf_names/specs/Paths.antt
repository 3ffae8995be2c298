-- The path of the file that a name stands for: a relative reference follows the folder of the
-- document (glTF 2.0, section 2.8).
use Rattle.std.specs.Prelude.{ℕ, List, [], ◌∷◌, ◌++◌, nat_eq, if◌then◌else◌}
use Rattle.std.specs.List.{starts_with}
use Rattle.gltf_names.specs.Named.{Named, File, Relative}

-- a path as it stands, and a relative reference after the base, where it does not begin with `/`
abbrev pub path_of : List ℕ → Named → List ℕ
path_of base (File text) = text
path_of base (Relative text) = if starts_with nat_eq text (47 ∷ []) then text else base ++ text
