use Rattle.std.proofs.Common.{◌≡◌, ap, ◌∙◌, [], Option, Some, None, refl}
use Rattle.std.specs.Prelude.{unwrap_or, option_map}
use Rattle.gltf_items.specs.ItemIter.{items_left}
use Rattle.gltf_items.specs.declared.item.Item.{Ghosts}
use Rattle.gltf_items.specs.declared.item_iter.ItemIter.{ItemIter}
use Rattle.gltf_inspect_values.specs.Stored.{left}
use Rattle.gltf_inspect_values.proofs.stored.stored.Goals as goal

left_is : {X : Type 0} {t : Ghosts X} (o : Option (ItemIter X t))
    → left o ≡ unwrap_or (option_map items_left o) []
left_is None = refl
left_is (Some items) = refl

pub returns : goal.returns
returns g c =
    let given = rw c.value-view.ensures at c.part_at.ensures in
    left_is c.part_at.result ∙ ap (λ o. unwrap_or o []) given
