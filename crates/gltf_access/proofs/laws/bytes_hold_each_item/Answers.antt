use Rattle.std.proofs.Common.{ℕ, ◌+◌, ◌-◌, ◌*◌, ◌≤◌, List, length, arith}
use Rattle.gltf_data.specs.Parts.{Part, Fits, stride, view_offset}
use Rattle.gltf_access.proofs.Cut.{item_in_cut, room_in_cut}
use Rattle.gltf_access.proofs.laws.bytes_hold_each_item.Goals as goal

room : (p : Part) (bytes : List ℕ) → Fits p bytes
    → view_offset p.view + p.offset + (stride p.view p.size * (p.count - 1) + p.size)
    ≤ length bytes
room p bytes fits = omega (arith, fits.view_within, fits.items_within)

pub returns : goal.returns
returns c p bytes fits i below = record {
  within =
      room_in_cut bytes (view_offset p.view + p.offset) (stride p.view p.size) p.count p.size i
      fits.apart below (room p bytes fits);
  same =
      item_in_cut bytes (view_offset p.view + p.offset) (stride p.view p.size) p.count p.size i
      fits.apart below (room p bytes fits);
}
