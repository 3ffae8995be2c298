-- The items of a sequence that are left.
use Rattle.std.specs.Prelude.{List, drop}
use Rattle.gltf_geometry.specs.declared.items.Sequence.{Ghosts}
use Rattle.gltf_geometry.specs.declared.items.Items.{Items}

abbrev pub items_left : {S A : Type 0} → {g : Ghosts S A} → Items S A g → List A
items_left {g = g} it = drop it.next (g.list it.sequence)
