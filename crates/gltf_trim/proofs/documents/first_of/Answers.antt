use Rattle.std.proofs.Common.{ap, ◌∙◌, sym}
use Rattle.serde_json.specs.Data.{array}
use Rattle.serde_json.specs.View.{view, items_view}
use Rattle.serde_json.proofs.Views.{view-Array}
use Rattle.gltf_trim.specs.Trimmed.{first_of}
use Rattle.gltf_trim.proofs.Elements.{taken}
use Rattle.gltf_trim.proofs.documents.first_of.Goals as goal

pub returns-in-Array : goal.returns-in-Array
returns-in-Array c =
    let list = c.in-Array.elements in
    view-Array c.truncate.new.self
    ∙ ap (λ vs. array (items_view vs)) c.truncate.ensures.items
    ∙ ap array (taken c.args.count list.items)
    ∙ ap (first_of c.args.count) (sym (view-Array list))
    ∙ sym (ap (λ v. first_of c.args.count (view v)) c.in-Array.is)
