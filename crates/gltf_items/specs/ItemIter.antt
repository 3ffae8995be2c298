-- The list that an `ItemIter` has left.
use Rattle.std.specs.Prelude.{List}
use Rattle.gltf_items.specs.Plain.{plain}
use Rattle.gltf_items.specs.declared.item.Item.{Ghosts}
use Rattle.gltf_items.specs.declared.item_iter.ItemIter.{ItemIter}

abbrev pub items_left : {X : Type 0} → {g : Ghosts X} → ItemIter X g → List X
items_left {g = g} it = plain g.size g.value it.bytes.now it.stride
