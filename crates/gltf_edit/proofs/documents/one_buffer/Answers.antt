use Rattle.std.proofs.Common.{◌≡◌, ◌∷◌, ◌++◌, [], length, codes, ap, ◌∙◌, arith}
use Rattle.std.proofs.lemmas.Grind.{common_steps}
use Rattle.serde_json.specs.Data.{array, object, item, no_items, put, no_members}
use Rattle.serde_json.specs.View.{items_view, members_view}
use Rattle.serde_json.proofs.Views.{view-Array, view-Object}
use Rattle.serde_json.specs.declared.value.Value.{Object}
use Rattle.gltf_edit.specs.Bundled.{whole}
use Rattle.gltf_edit.proofs.Views.{some_of, none_of}
use Rattle.gltf_edit.proofs.documents.one_buffer.Goals as goal
use Rattle.gltf_edit.proofs.documents.one_buffer.Goals.{then-not-is_empty+in_ok-put+in_ok-push}
use Rattle.gltf_edit.proofs.documents.one_buffer.Goals.{else-not-is_empty}

pub returns : goal.returns
returns c =
    let listed = c.in-Array.list.items in
    elim c.if-not-is_empty.branch [
      | then-not-is_empty+in_ok-put+in_ok-push w ↦
          let some : length listed ≡ 0 → ⊥ =
          λ h. grind (arith, common_steps, c.is_empty.ensures, w.if-not-is_empty.true, h) in
          let buffer : members_view w.put.new.map.entries
          ≡ put (codes "byteLength") (whole c.args.total) no_members =
          w.in_ok-put.ensures.ok
          ∙ ap (λ d. put (codes "byteLength") d (members_view w.new-buffer.result.entries))
          w.from.ensures
          ∙ ap (λ es. put (codes "byteLength") (whole c.args.total) (members_view es))
          w.new-buffer.ensures.empty in
          rw (c.in-Array.is, w.one-is, view-Array c.in-Array.list, some_of c.args.total listed some)
          (view-Array w.push.new.self
          ∙ ap (λ vs. array (items_view vs)) w.in_ok-push.ensures.items
          ∙ ap (λ vs. array (items_view (vs ++ Object w.put.new.map ∷ []))) c.new-one.ensures.items
          ∙ ap (λ d. array (item d no_items)) (view-Object w.put.new.map ∙ ap object buffer))
      | else-not-is_empty w ↦
          let none : length listed ≡ 0 =
          grind (arith, common_steps, c.is_empty.ensures, w.if-not-is_empty.false) in
          rw (c.in-Array.is, w.one-is, view-Array c.in-Array.list, none_of c.args.total listed none)
          (view-Array c.new-one.result ∙ ap (λ vs. array (items_view vs)) c.new-one.ensures.items)
    ]
