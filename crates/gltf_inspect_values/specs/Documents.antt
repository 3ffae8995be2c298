-- All checks of the values of a document's accessors, in order.
use Rattle.std.specs.Prelude.{codes}
use Rattle.gltf_json.specs.declared.root.Root.{Root}
use Rattle.gltf_findings.specs.Checks.{Checks, ◌&◌, member, list_checks}
use Rattle.gltf_inspect_items.specs.Reading.{Bytes}
use Rattle.gltf_inspect_values.specs.Accessors.{accessor_checks}
use Rattle.gltf_inspect_values.specs.Bounds.{each_checks}
use Rattle.gltf_inspect_values.specs.Times.{animation_checks}

abbrev pub values_checks : Root → Bytes → Checks
values_checks r bytes =
    member (codes "accessors") (each_checks (accessor_checks r bytes) 0 r.accessors.items)
    & member (codes "animations") (list_checks (animation_checks r bytes) r.animations.items)
