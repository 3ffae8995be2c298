use Rattle.std.proofs.Common.{◌≡◌, ◌∙◌, ap, subst}
use Rattle.std.specs.Prelude.{OnOk}
use Rattle.gltf_inspect_nodes.specs.Roots.{times_65536}
use Rattle.gltf_inspect_nodes.specs.Orders.{ends_by}
use Rattle.gltf_inspect_nodes.proofs.roots.times_2_64.Goals as goal

pub returns : goal.returns
unfolding ends_by
returns c =
    subst (λ t. OnOk c.times_65536-4.result
    (c.times_65536-4.new.table.items ≡ times_65536 t))
    (c.in_ok-times_65536-3.ensures
    ∙ ap (λ t. times_65536 t) (c.in_ok-times_65536-2.ensures
    ∙ ap (λ t. times_65536 t) c.in_ok-times_65536.ensures))
    c.times_65536-4.ensures
