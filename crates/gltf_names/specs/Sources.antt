-- What contracts see of the sources.
use Rattle.std.specs.Prelude.{◌≡◌, ℕ, List, Option, Some, None, option_map, ◌==◌, ◌-◌}
use Rattle.std.specs.Prelude.{if◌then◌else◌}
use Rattle.std.specs.BTreeMap.{BTreeMap, get_by_text}
use Rattle.std.specs.declared.alloc.Global.{Global}
use Rattle.std.specs.declared.string.String.{String}
use Rattle.std.specs.declared.vec.Vec.{Vec}
use Rattle.gltf_names.specs.declared.shelf.Shelf.{Shelf}
use Rattle.gltf_names.specs.declared.folder.Folder.{Folder}
use Rattle.gltf_names.specs.declared.inside.Inside.{Inside}
use Rattle.gltf_names.specs.declared.own_folder.OwnFolder.{OwnFolder}
use Rattle.gltf_names.specs.Named.{Named, File, Relative, is_same}

-- the text that a folder puts before relative references
abbrev pub folder_base : {R F D : Type 0} → Folder R F D → List ℕ
folder_base folder = folder.base.now

-- the names whose reads failed, the last of them first
abbrev pub folder_failures : {R F D : Type 0} → Folder R F D → List Named
folder_failures folder = folder.log.failures.names

abbrev pub shelf_failures : Shelf → List Named
shelf_failures shelf = shelf.log.failures.names

-- the bytes that a map has at a text
abbrev pub bytes_at : BTreeMap (String Global) (Vec ℕ Global) → List ℕ → Option (List ℕ)
bytes_at map text = option_map (λ bytes. bytes.items) (get_by_text map text)

-- the bytes that a shelf holds by a name
abbrev pub shelf_holds : Shelf → Named → Option (List ℕ)
shelf_holds shelf (File text) = bytes_at shelf.files text
shelf_holds shelf (Relative text) = bytes_at shelf.relatives text

abbrev pub HoldsTheSame : Shelf → Shelf → Type 0
HoldsTheSame old new = (name : Named) → shelf_holds new name ≡ shelf_holds old name

-- the name has these bytes, and each other one those that it had
abbrev pub PutsBytes : Shelf → Shelf → Named → List ℕ → Type 0
PutsBytes old new name bytes =
    (other : Named) → shelf_holds new other
    ≡ (if is_same name other then Some bytes else shelf_holds old other)

-- how many reads come before the one that is to fail, where one is
abbrev pub shelf_due : Shelf → Option ℕ
shelf_due shelf = shelf.due

-- these bytes, or none at the read that is to fail
abbrev pub unless_due : Option ℕ → Option (List ℕ) → Option (List ℕ)
unless_due None bytes = bytes
unless_due (Some reads) bytes = if reads == 0 then None else bytes

-- the same one read later
abbrev pub due_after : Option ℕ → Option ℕ
due_after None = None
due_after (Some reads) = if reads == 0 then None else Some (reads - 1)

-- the source that is asked for what stays inside
abbrev pub inside_source : {S : Type 0} → Inside S → S
inside_source inside = inside.source

-- the path of the document
abbrev pub inside_document : {S : Type 0} → Inside S → List ℕ
inside_document inside = inside.document.now

abbrev pub inside_failures : {S : Type 0} → Inside S → List Named
inside_failures inside = inside.log.failures.names

abbrev pub own_failures : {R F D : Type 0} → OwnFolder R F D → List Named
own_failures folder = folder.log.failures.names
