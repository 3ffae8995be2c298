use Rattle.std.proofs.Common.{◌≡◌, length, take}
use Rattle.std.specs.Prelude.{map}
use Rattle.gltf_items.specs.Floats.{float_of}
use Rattle.gltf_items.proofs.item.floats.Given as goal

abbrev pub invariant-loop-i : goal.invariant-loop-i
invariant-loop-i g l = record {
  same_length : length l.numbers ≡ length l.items;
  read : take l.i l.numbers ≡ map float_of (take l.i l.items);
}
