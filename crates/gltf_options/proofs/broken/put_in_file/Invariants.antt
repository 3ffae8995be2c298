use Rattle.std.proofs.Common.{◌≡◌, ◌++◌, map, take, drop}
use Rattle.gltf_options.specs.Places.{in_file}
use Rattle.gltf_options.proofs.broken.put_in_file.Given as goal

abbrev pub invariant-loop-fault : goal.invariant-loop-fault
invariant-loop-fault l =
    l.faults ≡ map (in_file l.places) (take l.fault-index l.initial.faults)
    ++ drop l.fault-index l.initial.faults
