use Rattle.std.proofs.Common.{◌≡◌, ◌≤◌, ◌+◌, ◌∙◌, ap, arith, drop, subst, None}
use Rattle.std.proofs.lemmas.List.{drop-drop}
use Rattle.gltf_scene.specs.Attributes.{attributes_left, NthAttribute}
use Rattle.gltf_scene.proofs.Steps.{behind, none_behind}
use Rattle.gltf_scene.proofs.mesh.iter.Attributes.nth.Goals as goal

pub returns-in_err-next : goal.returns-in_err-next
returns-in_err-next g c =
    let old = attributes_left c.args.self.now in
    let new = attributes_left c.next.new.self in
    let kept = c.loop-passed.invariant in
    let here = behind old (attributes_left c.loop-passed.self) new c.loop-passed.passed 0 None
    kept.3 kept.4 c.in_err-next.ensures.steps in
    let below : c.loop-passed.passed + 0 ≤ c.args.n = omega (arith, kept.2) in
    rw c.from_residual.ensures
    (none_behind old new (c.loop-passed.passed + 0) c.args.n below here)

pub loop-passed-preserved : goal.loop-passed-preserved
loop-passed-preserved g c =
    let step = c.in_ok-next.ensures.steps in
    let kept = c.loop-passed.invariant in
    let below : c.loop-passed.passed + 1 ≤ c.args.n =
    omega (arith, c.loop-passed-test.true) in
    let behind_one = ap (drop 1) kept.4
    ∙ drop-drop 1 c.loop-passed.passed (attributes_left c.args.self.now).entries in
    (tt, tt, below, step.document ∙ kept.3, step.entries ∙ behind_one)

pub returns : goal.returns
returns g c =
    let old = attributes_left c.args.self.now in
    let new = attributes_left c.next-2.new.self in
    let kept = c.loop-passed.invariant in
    let here = behind old (attributes_left c.loop-passed.self) new c.loop-passed.passed 0
    c.next-2.result kept.3 kept.4 c.next-2.ensures.steps in
    let all : c.loop-passed.passed + 0 ≡ c.args.n =
    omega (arith, kept.2, c.loop-passed-test.false) in
    subst (λ k. NthAttribute old k c.next-2.result new) all here
