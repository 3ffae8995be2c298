use Rattle.std.proofs.Common.{ap, ◌∙◌, codes, ◌≡◌, List, Option, ℕ}
use Rattle.serde_json.specs.View.{view}
use Rattle.gltf_edit.specs.Bundled.{with_some}
use Rattle.gltf_edit.specs.Embedded.{without_member}
use Rattle.gltf_trim.specs.Trimmed.{with_buffers}
use Rattle.gltf_trim.proofs.documents.trimmed.Goals as goal

pub returns-then-trim-eq0 : goal.returns-then-trim-eq0
returns-then-trim-eq0 c =
    let d = view c.args.document in
    let base : view c.in_ok-document.document
    ≡ with_buffers c.args.trim.now.lengths.items d d =
    c.in_ok-document.ensures
    ∙ ap (λ o. with_some (codes "buffers") o d) c.in_ok-buffers.ensures
    ∙ ap (λ (ls : List (Option ℕ)). with_buffers ls d d) c.deref.ensures.value in
    rw c.if-trim-eq0.true
    (c.without_member.ensures ∙ ap (without_member (codes "bufferViews")) base)
