use Rattle.std.proofs.Common.{◌≡◌, ◌++◌, length, take, drop}
use Rattle.std.specs.Prelude.{map, option_map}
use Rattle.serde_json.specs.View.{view}
use Rattle.gltf_numbers.specs.Numbers.{numbers_in}
use Rattle.gltf_numbers.proofs.value.all_numbers.Given as goal

-- the numbers of all values are those found so far and those of the rest
abbrev pub invariant-loop-i : goal.invariant-loop-i
invariant-loop-i g l = record {
  same_length : length l.found ≡ length l.values;
  read : numbers_in (map view l.values)
      ≡ option_map (λ rest. take l.i l.found ++ rest) (numbers_in (map view (drop l.i l.values)));
}
