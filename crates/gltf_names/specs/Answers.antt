-- What a source of named bytes answers.
use Rattle.std.specs.Prelude.{◌≡◌, ℕ, List, ◌∷◌, Option, Some, None, Result, Ok, Err, IfSome, ⊤}
use Rattle.std.specs.declared.vec.Vec.{Vec}
use Rattle.std.specs.declared.alloc.Global.{Global}
use Rattle.gltf_names.specs.declared.name.NamedFault.{NamedFault}
use Rattle.gltf_names.specs.declared.name.NamedFault.TheVariants.{Io, Memory}
use Rattle.gltf_names.specs.Named.{Named}

-- the name is noted as one more failure exactly where the answer is `Io`
abbrev pub NotesFailure : Result (Vec ℕ Global) NamedFault → Named → List Named → List Named
    → Type 0
NotesFailure (Ok bytes) name old new = new ≡ old
NotesFailure (Err (Io cause)) name old new = new ≡ name ∷ old
NotesFailure (Err Memory) name old new = new ≡ old

-- where a source is honest, the bytes of a name are those that it holds
abbrev pub GivesHeld : Result (Vec ℕ Global) NamedFault → Named → Option (Named → Option (List ℕ))
    → Type 0
GivesHeld (Ok bytes) name held = IfSome held (λ holds. holds name ≡ Some bytes.items)
GivesHeld (Err fault) name held = ⊤

-- these bytes, or a failure where there are none
abbrev pub GivesExactly : Option (List ℕ) → Result (Vec ℕ Global) NamedFault → Type 0
GivesExactly held (Ok bytes) = held ≡ Some bytes.items
GivesExactly held (Err (Io cause)) = held ≡ None
GivesExactly held (Err Memory) = ⊤
