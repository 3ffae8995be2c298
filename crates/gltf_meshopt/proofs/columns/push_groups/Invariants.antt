use Rattle.std.proofs.Common.{◌≡◌, ◌-◌, ◌+◌, ◌*◌, vec_len}
use Rattle.gltf_meshopt.specs.Reading.{after}
use Rattle.gltf_meshopt.specs.Attributes.{groups_at}
use Rattle.gltf_meshopt.proofs.columns.push_groups.Given as goal

abbrev pub invariant-loop-index : goal.invariant-loop-index
invariant-loop-index l = record {
  so_far : after l.out.items (groups_at (l.groups - l.index) l.index l.header l.rest) ≡ after
      l.fn.out.items (groups_at l.groups 0 l.header l.bytes);
  len : vec_len l.out ≡ vec_len l.fn.out + 16 * l.index;
}
