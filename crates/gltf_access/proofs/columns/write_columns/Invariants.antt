use Rattle.std.proofs.Common.{◌≡◌, ◌+◌, ◌*◌, ◌++◌, take, drop}
use Rattle.std.specs.List.{concat}
use Rattle.gltf_items.specs.Reading.{in_row}
use Rattle.gltf_access.proofs.columns.write_columns.Given as goal

abbrev pub invariant-loop-i : goal.invariant-loop-i
invariant-loop-i l =
    l.out ≡ concat (in_row l.i (l.layout.column + l.layout.padding) (take l.layout.column) l.item)
    ++ drop (l.i * l.layout.column) l.initial.out
