-- All checks of the items of a document, in order.
use Rattle.std.specs.Prelude.{codes}
use Rattle.gltf_json.specs.declared.root.Root.{Root}
use Rattle.gltf_findings.specs.Checks.{Checks, member, list_checks}
use Rattle.gltf_inspect_items.specs.Indices.{mesh_checks}
use Rattle.gltf_inspect_items.specs.Reading.{Bytes}

abbrev pub items_checks : Root → Bytes → Checks
items_checks r bytes = member (codes "meshes") (list_checks (mesh_checks r bytes) r.meshes.items)
