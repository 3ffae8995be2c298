use Rattle.std.proofs.Common.{◌≡◌, take, map, replicate, false}
use Rattle.gltf_uses.specs.Kinds.{all_kinds, count_of}
use Rattle.gltf_uses.proofs.usage.Usage.none.Given as goal

-- what was made is a front of the whole
abbrev pub invariant-loop-kind : goal.invariant-loop-kind
invariant-loop-kind l =
    map (λ marks. marks.items) l.lists.items
    ≡ map (λ kind. replicate (count_of kind l.counts) false) (take l.kind-index all_kinds)
