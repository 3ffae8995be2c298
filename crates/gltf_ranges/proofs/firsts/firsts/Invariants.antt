use Rattle.gltf_ranges.proofs.Seen.{AreSeen}
use Rattle.gltf_ranges.proofs.firsts.firsts.Given as goal

-- what was seen of the accessors before this one
abbrev pub invariant-loop-i : goal.invariant-loop-i
invariant-loop-i l = AreSeen l.accessors l.i l.seen l.firsts.items
