use Rattle.std.proofs.Common.{◌≡◌, ◌-◌, ◌++◌}
use Rattle.gltf_meshopt.specs.Attributes.{elements, last_element}
use Rattle.gltf_meshopt.proofs.elements.push_elements.Given as goal

abbrev pub invariant-loop-index : goal.invariant-loop-index
invariant-loop-index l = record {
  items : l.out.items ++ elements l.size l.deltas (l.count - l.index) l.index l.last ≡
      l.fn.out.items ++ elements l.size l.deltas l.count 0 l.fn.last;
  last : last_element l.size l.deltas (l.count - l.index) l.index l.last ≡ last_element l.size
      l.deltas l.count 0 l.fn.last;
}
