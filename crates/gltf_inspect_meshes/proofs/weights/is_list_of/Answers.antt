use Rattle.std.proofs.Common.{◌∙◌, refl, sym}
use Rattle.serde_json.specs.View.{view}
use Rattle.gltf_inspect_meshes.proofs.Lengths.{of_list}
use Rattle.gltf_inspect_meshes.proofs.weights.is_list_of.Goals as goal

pub returns-in-Some : goal.returns-in-Some
returns-in-Some c =
    rw c.as_slice.ensures.value (of_list c.args.count (view c.args.value.now)
    c.in-Some.list.now.items (sym c.as_array.ensures ∙ rw c.in-Some.is refl))
