-- What calls are asked for that no record has.
use Rattle.std.specs.Prelude.{◌≡◌, ℕ, Option, Some, None}
use Rattle.gltf_json.specs.declared.root.Root.{Root}
use Rattle.gltf_c_open.specs.declared.file.File.{File}
use Rattle.gltf_c_scene.specs.Kinds.{count_of}

-- the scene to show (section 3.5.1)
abbrev pub default_scene : Root → Option ℕ
default_scene r = r.scene

-- the number of records of a kind; of a closed file it is 0
abbrev pub HasCount : Option File → ℕ → ℕ → Type 0
HasCount None kind n = n ≡ 0
HasCount (Some file) kind n = n ≡ count_of kind file.document
