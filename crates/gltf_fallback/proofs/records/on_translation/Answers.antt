use Rattle.std.proofs.Common.{◌≡◌, IfOk, subst, ap, ◌∙◌, codes}
use Rattle.serde_json.specs.Data.{Data, string}
use Rattle.serde_json.specs.View.{view}
use Rattle.serde_json.specs.declared.value.Value.{Value}
use Rattle.gltf_edit.specs.Bundled.{with_member, whole}
use Rattle.gltf_fallback.proofs.records.on_translation.Goals as goal

pub returns : goal.returns
returns c =
    let one = view c.args.one in
    let path : view c.in_ok-path.path ≡ string (codes "translation") = c.in_ok-path.ensures in
    let target : view c.in_ok-target.target
    ≡ with_member (codes "path") (string (codes "translation")) one =
    c.in_ok-target.ensures ∙ ap (λ (e : Data). with_member (codes "path") e one) path in
    let zero : view c.from.result ≡ whole 0 = c.from.ensures in
    subst (λ (d : Data). IfOk c.with_some-2.result
    (λ (v : Value). view v ≡ with_member (codes "node") (whole 0) d)) target
    (subst (λ (e : Data). IfOk c.with_some-2.result
    (λ (v : Value). view v ≡ with_member (codes "node") e (view c.in_ok-target.target))) zero
    c.with_some-2.ensures)
