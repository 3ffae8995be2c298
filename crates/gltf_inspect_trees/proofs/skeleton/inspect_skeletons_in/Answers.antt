use Rattle.std.proofs.Common.{sym, ap, ◌∙◌, ◌∷◌, [], ◌++◌, length}
use Rattle.std.specs.Prelude.{codes}
use Rattle.gltf_json_record.specs.Place.{named}
use Rattle.gltf_validation.specs.Locations.{places_of}
use Rattle.gltf_inspect_trees.specs.Skeletons.{have_skeleton, is_below}
use Rattle.gltf_inspect_trees.proofs.Same.{none_told}
use Rattle.gltf_inspect_trees.proofs.skeleton.inspect_skeletons_in.Goals as goal

pub returns-else-have_skeleton : goal.returns-else-have_skeleton
returns-else-have_skeleton c =
    let ns = c.args.root.now.nodes.items in
    sym (none_told (is_below ns) (length ns) c.args.root.now.skins.items c.args.findings.now
    (places_of c.args.location.now ++ named (codes "skins") ∷ [])
    (ap (λ ss. have_skeleton ss) (sym c.as_slice-skins.ensures.value)
    ∙ sym c.have_skeleton.ensures ∙ c.if-have_skeleton.false))
