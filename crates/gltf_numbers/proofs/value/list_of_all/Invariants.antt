use Rattle.std.proofs.Common.{◌≡◌, ◌++◌, drop}
use Rattle.std.specs.Prelude.{map, option_map}
use Rattle.serde_json.specs.View.{view}
use Rattle.gltf_numbers.specs.Numbers.{numbers_in}
use Rattle.gltf_numbers.proofs.value.list_of_all.Given as goal

-- the numbers of all values are those found so far and those of the rest
abbrev pub invariant-loop-value : goal.invariant-loop-value
invariant-loop-value l =
    numbers_in (map view l.values)
    ≡ option_map (λ rest. l.found.items ++ rest) (numbers_in (map view (drop l.value-index l.values)))
