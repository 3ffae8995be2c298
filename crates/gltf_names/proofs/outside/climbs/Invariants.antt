use Rattle.std.proofs.Common.{◌≡◌, ◌≤◌, length, drop}
use Rattle.gltf_names.specs.Inside.{parts_of}
use Rattle.gltf_names.proofs.Climbing.{climbs_from}
use Rattle.gltf_names.proofs.outside.climbs.Given as goal

abbrev pub invariant-loop-part : goal.invariant-loop-part
invariant-loop-part l =
    record {
      same : climbs_from (drop (length l.yielded) (parts_of l.path)) l.depth ≡ climbs_from (parts_of l.path) 0;
      few : l.depth ≤ length l.yielded;
    }
