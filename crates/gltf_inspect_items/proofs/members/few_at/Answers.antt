use Rattle.std.proofs.Common.{◌≡◌, ◌∙◌, Some, ap, subst, sym, refl, length, rules}
use Rattle.std.proofs.lemmas.Bool.{ltb-true}
use Rattle.std.proofs.lemmas.Option.{slice_get_read}
use Rattle.std.specs.Prelude.{slice_get}
use Rattle.gltf_json.specs.declared.root.Root.{Root}
use Rattle.gltf_shared.specs.Shown.{lent_bytes}
use Rattle.gltf_inspect_items.proofs.Few.{few_are, no_view}
use Rattle.gltf_inspect_items.proofs.members.few_at.Goals as goal

pub returns : goal.returns
returns g c =
    let items : c.as_slice.result.now ≡ c.args.document.now.accessors.items =
    c.as_slice.ensures.value ∙ ap (λ (r : Root). r.accessors.items) c.as_json.ensures in
    let here : slice_get c.args.document.now.accessors.items c.args.index
    ≡ Some c.in-Some.accessor.now =
    subst (λ xs. slice_get xs c.args.index ≡ Some c.in-Some.accessor.now) items
    (slice_get_read c.as_slice.result.now (length c.as_slice.result.now) c.args.index
    c.in-Some.accessor.now refl
    (ltb-true c.args.index (length c.as_slice.result.now) (sym c.in-Some.ensures.lookup.0))
    c.in-Some.ensures.lookup.1) in
    few_are c.args.document.now (slice_get (lent_bytes c.args.buffers.now)) c.args.index
    c.in-Some.accessor.now c.in-Some-lent.sparse.now c.few_of.result here
    (no_view _ (search rules)) (search rules) c.few_of.ensures
