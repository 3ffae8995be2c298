-- Bytes by name that are lent.
use Rattle.std.specs.Prelude.{ℕ, List, [], ◌∷◌, map, Option, Some, None, if◌then◌else◌}
use Rattle.gltf_names.specs.Named.{Named, named, is_same}
use Rattle.gltf_names.specs.declared.slices.Slices.{Slices}

-- the bytes of the first file of a name
abbrev pub held_in : List (Named × List ℕ) → Named → Option (List ℕ)
held_in [] name = None
held_in (file ∷ files) name = if is_same file.0 name then Some file.1 else held_in files name

abbrev pub slices_files : Slices → List (Named × List ℕ)
slices_files slices = map (λ file. (named file.0, file.1.now)) slices.files.now

abbrev pub slices_holds : Slices → Named → Option (List ℕ)
slices_holds slices = held_in (slices_files slices)

-- the names whose reads failed, the last of them first
abbrev pub slices_failures : Slices → List Named
slices_failures slices = slices.log.failures.names
