use Rattle.std.proofs.Common.{arith, length, subst, Some}
use Rattle.std.proofs.lemmas.Bool.Decides.{nat_tests}
use Rattle.std.proofs.lemmas.Grind.{common_steps}
use Rattle.std.specs.BTreeMap.{get_by}
use Rattle.gltf_handles.specs.Accessors.{IsAccessor}
use Rattle.gltf_handles.specs.Members.{Follows}
use Rattle.gltf_validation.specs.Members.{index_rules}
use Rattle.gltf_scene.proofs.Entries.{value_holds}
use Rattle.gltf_scene.proofs.mesh.Primitive.get.Goals as goal

pub returns-in_err-index : goal.returns-in_err-index
returns-in_err-index g c =
    let p = c.args.self.now in
    subst (λ f. Follows (IsAccessor (g.D.Records.root p.inner.document.now))
    (get_by (f c.args.semantic.now) p.inner.json.now.attributes) c.from_residual.result)
    c.order_is_the_stated_one.ensures
    (rw (c.from_residual.ensures, ← c.in_err-index.ensures.value) tt)

pub new-requires : goal.new-requires
new-requires g c =
    let p = c.args.self.now in
    let accessors = (g.D.Records.root p.inner.document.now).accessors.items in
    let holds = value_holds (index_rules (length accessors))
    p.inner.json.now.attributes.entries c.in_ok-index.index.now
    c.in_ok-index.ensures.member p.inner.holds.0.0 in
    grind (arith, common_steps, nat_tests, c.value.ensures, holds)

pub returns : goal.returns
returns g c =
    let p = c.args.self.now in
    subst (λ f. Follows (IsAccessor (g.D.Records.root p.inner.document.now))
    (get_by (f c.args.semantic.now) p.inner.json.now.attributes) (Some c.new.result))
    c.order_is_the_stated_one.ensures
    (rw (← c.in_ok-index.ensures.value, ← c.value.ensures) c.new.ensures)
