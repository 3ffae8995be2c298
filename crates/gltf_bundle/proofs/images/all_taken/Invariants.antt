use Rattle.std.proofs.Common.{◌≡◌, ◌++◌, ℕ, List, take}
use Rattle.serde_json.specs.View.{items_view}
use Rattle.gltf_names.specs.Named.{Named}
use Rattle.gltf_buffers.specs.Shown.{bytes_of_each}
use Rattle.gltf_bundle.specs.Images.{AllTaken}
use Rattle.gltf_bundle.proofs.images.all_taken.Given as goal

abbrev pub invariant-loop-i : goal.invariant-loop-i
invariant-loop-i g l = record {
  kept : g.N.Ask.names l.names ≡ g.N.Ask.names l.fn.names;
  taken : List (List ℕ);
  lost : List Named;
  fine : g.N.Ask.failures l.names ≡ lost ++ g.N.Ask.failures l.fn.names;
  far : AllTaken l.keep (g.N.Ask.names l.fn.names) (items_view (take l.i l.images)) l.all.items
      taken lost;
  behind : bytes_of_each l.buffers.items ≡ bytes_of_each l.fn.buffers.items ++ taken;
}
