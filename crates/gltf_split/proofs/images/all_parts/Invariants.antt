use Rattle.std.proofs.Common.{◌≡◌, ◌++◌, List, take}
use Rattle.serde_json.specs.View.{view, items_view}
use Rattle.gltf_names.specs.Named.{Named}
use Rattle.gltf_buffers.specs.Shown.{bytes_of_each}
use Rattle.gltf_split.specs.Images.{AreParts}
use Rattle.gltf_split.proofs.images.all_parts.Given as goal

abbrev pub invariant-loop-i : goal.invariant-loop-i
invariant-loop-i g l = record {
  kept : g.N.Ask.names l.names ≡ g.N.Ask.names l.fn.names;
  lost : List Named;
  fine : g.N.Ask.failures l.names ≡ lost ++ g.N.Ask.failures l.fn.names;
  far : AreParts l.keep (g.N.Ask.names l.fn.names) l.stem (bytes_of_each l.buffers)
      (view l.document) 0 (items_view (take l.i l.images)) l.all.items lost;
}
