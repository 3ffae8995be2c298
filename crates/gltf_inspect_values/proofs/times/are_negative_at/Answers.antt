use Rattle.std.proofs.Common.{◌≡◌, ◌∙◌, Some, ap, subst, sym, refl, length, rules}
use Rattle.std.proofs.lemmas.Bool.{ltb-true}
use Rattle.std.proofs.lemmas.Option.{slice_get_read}
use Rattle.gltf_json.specs.declared.root.Root.{Root}
use Rattle.std.specs.Prelude.{slice_get}
use Rattle.gltf_shared.specs.Shown.{lent_bytes}
use Rattle.gltf_inspect_items.specs.Members.{members_left}
use Rattle.gltf_inspect_items.specs.Reading.{items_at}
use Rattle.gltf_inspect_values.specs.Items.{as_bytes}
use Rattle.gltf_inspect_values.proofs.Same.{negative_same, times_are}
use Rattle.gltf_inspect_values.proofs.times.are_negative_at.Goals as goal

pub returns-then-are_times : goal.returns-then-are_times
returns-then-are_times c =
    let bytes = slice_get (lent_bytes c.args.buffers.now) in
    let items : c.as_slice.result.now ≡ c.args.document.now.accessors.items =
    c.as_slice.ensures.value ∙ ap (λ (r : Root). r.accessors.items) c.as_json.ensures in
    let here : slice_get c.args.document.now.accessors.items c.args.index
    ≡ Some c.in-Some.accessor.now =
    subst (λ xs. slice_get xs c.args.index ≡ Some c.in-Some.accessor.now) items
    (slice_get_read c.as_slice.result.now (length c.as_slice.result.now) c.args.index
    c.in-Some.accessor.now refl
    (ltb-true c.args.index (length c.as_slice.result.now) (sym c.in-Some.ensures.lookup.0))
    c.in-Some.ensures.lookup.1) in
    c.are_negative.ensures
    ∙ negative_same (members_left c.members_at.result)
    (items_at (as_bytes 4) c.args.document.now bytes c.args.index) c.members_at.ensures
    ∙ times_are c.args.document.now bytes c.args.index c.in-Some.accessor.now here
    (search rules)
