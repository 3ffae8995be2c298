use Rattle.std.proofs.Common.{◌≡◌, ◌∙◌, ap, refl, subst}
use Rattle.std.specs.Prelude.{IfOk, List}
use Rattle.gltf_json_scene.specs.declared.scene.Node.{Node}
use Rattle.gltf_inspect_nodes.specs.Roots.{ends_of, parents_of}
use Rattle.gltf_inspect_nodes.specs.Orders.{ends_by}
use Rattle.gltf_inspect_nodes.proofs.roots.ends_in.Goals as goal

by_parents : (ns : List Node) → ends_by (parents_of ns) ≡ ends_of ns
unfolding ends_by ends_of
by_parents ns = refl

pub returns : goal.returns
returns c =
    subst (λ t. IfOk c.ends_by.result (λ ends. ends.items ≡ t))
    (ap (λ t. ends_by t)
    (c.in_ok-parents.ensures.items ∙ c.deref.ensures.value ∙ c.requires.parents)
    ∙ by_parents c.args.nodes.now)
    c.ends_by.ensures
