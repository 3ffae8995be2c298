use Rattle.std.proofs.Common.{◌≡◌, [], ap, ◌∙◌}
use Rattle.gltf_json.specs.declared.root.Root.{Root}
use Rattle.gltf_validation.specs.Documents.{counts_of}
use Rattle.gltf_uses.specs.declared.kind.Kind.{Kind}
use Rattle.gltf_uses.specs.Documents.{root_uses}
use Rattle.gltf_uses.specs.Kinds.{count_of}
use Rattle.gltf_uses.specs.References.{held, references_of, unused_of}
use Rattle.gltf_uses.specs.Usage.{marks_of, no_marks, unset, usage_after, used_of}
use Rattle.gltf_uses.specs.Uses.{after_uses}
use Rattle.gltf_uses.proofs.Unmarked.{is_unused, unset_are}
use Rattle.gltf_uses.proofs.AllMarks.{Lists, used_after}
use Rattle.gltf_uses.proofs.usage.Usage.of.Goals as goal

-- the marks that are not set are those of the elements that no member names
unset_used : (r : Root) (kind : Kind) → unset (used_of r kind) ≡ unused_of r kind
unfolding unused_of used_of references_of
unset_used r kind = unset_are (is_unused kind (held r)) 0 (count_of kind (counts_of r))

pub returns : goal.returns
unfolding used_of references_of
returns c =
    let r : Root = c.args.root.now in
    let start : c.in_ok-usage.usage ≡ no_marks (counts_of r) =
    c.in_ok-usage.ensures ∙ ap no_marks c.of.ensures in
    let used : (kind : Kind) → marks_of kind c.visit.new.sink ≡ used_of r kind = λ kind.
    ap (marks_of kind) c.in_ok-visit.ensures
    ∙ ap (λ (lists : Lists). marks_of kind (after_uses usage_after lists [] (root_uses r))) start
    ∙ used_after kind (counts_of r) (root_uses r) in
    record { used = used; unused = λ kind. ap unset (used kind) ∙ unset_used r kind }
