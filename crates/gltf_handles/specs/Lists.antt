-- Lists of handles, and those of a document.
use Rattle.gltf_handles.specs.declared.list.Indexed.{Ghosts}
use Rattle.gltf_handles.specs.declared.list.List.{List}
use Rattle.gltf_handles.specs.Positions.{Position}

-- what a list shows
abbrev pub position : {S A : Type 0} → {g : Ghosts S A} → List S A g → Position S
position l = record { source = l.source; next = l.next; end = l.end }
