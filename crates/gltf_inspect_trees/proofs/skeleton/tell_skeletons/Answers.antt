use Rattle.std.proofs.Common.{◌≡◌, ◌∙◌, ap, subst}
use Rattle.std.specs.Prelude.{OnOk}
use Rattle.gltf_validation.specs.Locations.{places_of}
use Rattle.gltf_findings.specs.Checks.{told_after}
use Rattle.gltf_inspect_trees.specs.Trees.{is_below_in, is_below_from}
use Rattle.gltf_inspect_trees.proofs.Same.{told_same}
use Rattle.gltf_inspect_trees.proofs.skeleton.tell_skeletons.Goals as goal

pub returns : goal.returns
returns c =
    subst (λ checks. OnOk c.tell_each.result (c.tell_each.new.findings
    ≡ told_after c.args.findings.now (places_of c.args.location.now) checks))
    (told_same c.args.nodes.now (is_below_in c.in_ok-trees.trees) c.args.skins.now
    (λ s k.
    c.in_ok-trees.ensures s k
    ∙ ap (λ ps. is_below_from ps s k) c.requires))
    c.tell_each.ensures
