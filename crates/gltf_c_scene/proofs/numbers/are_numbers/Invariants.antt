use Rattle.std.proofs.Common.{◌≡◌, drop, map}
use Rattle.std.specs.Prelude.{is_some}
use Rattle.serde_json.specs.View.{view}
use Rattle.gltf_numbers.specs.Numbers.{numbers_in}
use Rattle.gltf_c_scene.proofs.numbers.are_numbers.Given as goal

-- all are numbers where those that are left are
abbrev pub invariant-loop-value : goal.invariant-loop-value
invariant-loop-value l =
    is_some (numbers_in (map view (drop l.value-index l.values)))
    ≡ is_some (numbers_in (map view l.values))
