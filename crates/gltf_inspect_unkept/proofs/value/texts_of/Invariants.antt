use Rattle.std.proofs.Common.{◌≡◌, ◌++◌, map, drop, string_bytes}
use Rattle.serde_json.specs.View.{items_view}
use Rattle.gltf_inspect_unkept.specs.Documents.{items_texts}
use Rattle.gltf_inspect_unkept.proofs.value.texts_of.Given as goal

-- the texts so far, and those that are left
abbrev pub invariant-loop-item : goal.invariant-loop-item
invariant-loop-item l =
    map string_bytes l.names.items ++ items_texts (items_view (drop l.item-index l.item-items))
    ≡ items_texts (items_view l.item-items)
