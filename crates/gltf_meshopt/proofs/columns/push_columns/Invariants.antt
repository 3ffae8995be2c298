use Rattle.std.proofs.Common.{◌≡◌, ◌-◌, ◌+◌, ◌*◌, vec_len}
use Rattle.gltf_meshopt.specs.Reading.{after}
use Rattle.gltf_meshopt.specs.Attributes.{columns_at}
use Rattle.gltf_meshopt.proofs.columns.push_columns.Given as goal

abbrev pub invariant-loop : goal.invariant-loop
invariant-loop l = record {
  so_far : after l.out.items (columns_at (l.columns - l.counter) l.groups l.rest) ≡ after
      l.fn.out.items (columns_at l.columns l.groups l.bytes);
  len : vec_len l.out ≡ vec_len l.fn.out + l.counter * (16 * l.groups);
}
