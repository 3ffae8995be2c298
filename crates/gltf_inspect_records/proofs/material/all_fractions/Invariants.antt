use Rattle.std.proofs.Common.{◌≡◌, drop}
use Rattle.serde_json.specs.View.{items_view}
use Rattle.gltf_inspect_records.specs.Materials.{all_fractions}
use Rattle.gltf_inspect_records.proofs.material.all_fractions.Given as goal

-- those that are left are fractions where all are
abbrev pub invariant-loop-value : goal.invariant-loop-value
invariant-loop-value l =
    all_fractions (items_view (drop l.value-index l.values)) ≡ all_fractions (items_view l.values)
