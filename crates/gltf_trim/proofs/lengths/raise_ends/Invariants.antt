use Rattle.std.proofs.Common.{◌≡◌, drop}
use Rattle.serde_json.specs.View.{items_view}
use Rattle.gltf_trim.specs.Marks.{folded}
use Rattle.gltf_trim.specs.Lengths.{raised_by}
use Rattle.gltf_trim.proofs.lengths.raise_ends.Given as goal

-- what is left, after what was done so far, is the whole
abbrev pub invariant-loop-one : goal.invariant-loop-one
invariant-loop-one l =
    folded raised_by (items_view (drop l.one-index l.views)) l.ends.items
    ≡ folded raised_by (items_view l.views) l.initial.ends.items
