use Rattle.std.proofs.Common.{◌≡◌, ℕ, ◌+◌, drop, get_or}
use Rattle.std.specs.Prelude.{if◌then◌else◌}
use Rattle.serde_json.specs.View.{items_view}
use Rattle.gltf_trim.specs.Lengths.{is_in_some}
use Rattle.gltf_trim.specs.Tails.{bytes_of, byte_at}
use Rattle.gltf_trim.proofs.tails.clear_views.Given as goal

-- what is left, after what was done so far, is the whole
abbrev pub invariant-loop-one : goal.invariant-loop-one
invariant-loop-one l =
    (b i : ℕ)
    → (if is_in_some b (get_or l.ends b 0 + i) (items_view (drop l.one-index l.views)) then 0
    else byte_at (bytes_of l.tails.items) b i)
    ≡ (if is_in_some b (get_or l.ends b 0 + i) (items_view l.views) then 0
    else byte_at (bytes_of l.initial.tails.items) b i)
