use Rattle.std.proofs.Common.{◌≡◌, drop}
use Rattle.gltf_inspect_nodes.specs.ViewMarks.{primitives_marked}
use Rattle.gltf_inspect_nodes.proofs.view.mark_primitives.Given as goal

-- what is left to be marked, after what was so far, is the whole
abbrev pub invariant-loop-primitive : goal.invariant-loop-primitive
invariant-loop-primitive l =
    primitives_marked l.accessors l.marks.items (drop l.primitive-index l.primitives)
    ≡ primitives_marked l.accessors l.initial.marks.items l.primitives
