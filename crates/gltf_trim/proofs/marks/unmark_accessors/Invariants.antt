use Rattle.std.proofs.Common.{◌≡◌, drop}
use Rattle.serde_json.specs.View.{items_view}
use Rattle.gltf_trim.specs.Marks.{folded, marked_accessor}
use Rattle.gltf_trim.proofs.marks.unmark_accessors.Given as goal

-- what is left, after what was done so far, is the whole
abbrev pub invariant-loop-accessor : goal.invariant-loop-accessor
invariant-loop-accessor l =
    folded marked_accessor (items_view (drop l.accessor-index l.accessors)) l.marks.items
    ≡ folded marked_accessor (items_view l.accessors) l.initial.marks.items
