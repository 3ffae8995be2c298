use Rattle.std.proofs.Common.{sym, ◌∙◌}
use Rattle.std.specs.Cmp.{Equal-is}
use Rattle.gltf_json_geometry.specs.Semantics.{semantic_cmp}
use Rattle.gltf_json_geometry.proofs.Orders.{derived_eq}
use Rattle.gltf_json_geometry.proofs.laws.equality_agrees_with_order.Goals as goal

pub returns : goal.returns
returns c =
    let tied = Equal-is (semantic_cmp c.args.left.now c.args.right.now) in
    let same = c.eq.ensures ∙ derived_eq c.args.left.now c.args.right.now in
    (λ is. tied.0 (sym same ∙ is), λ is. same ∙ tied.1 is)
