use Rattle.std.proofs.Common.{◌≡◌, ◌++◌, drop, get_or, false, []}
use Rattle.std.specs.Prelude.{◌&&◌}
use Rattle.serde_json.specs.View.{items_view}
use Rattle.gltf_trim.specs.Lengths.{all_shorter}
use Rattle.gltf_trim.specs.Tails.{bytes_of, is_blank}
use Rattle.gltf_trim.proofs.lengths.all_shorter.Given as goal

abbrev pub invariant-loop-i : goal.invariant-loop-i
invariant-loop-i l =
    l.all.items ++ all_shorter
    (λ b. get_or l.marks b false && is_blank (get_or (bytes_of l.tails) b [])) l.ends l.i
    (items_view (drop l.i l.buffers))
    ≡ all_shorter (λ b. get_or l.marks b false && is_blank (get_or (bytes_of l.tails) b []))
    l.ends 0 (items_view l.buffers)
