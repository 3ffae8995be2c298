use Rattle.std.proofs.Common.{ap, sym, refl, [], take}
use Rattle.std.specs.Prelude.{slice_get}
use Rattle.gltf_shared.specs.Shown.{lent_bytes}
use Rattle.gltf_items.specs.ItemIter.{items_left}
use Rattle.gltf_inspect_items.specs.Members.{values_in}
use Rattle.gltf_inspect_items.proofs.Few.{few_same, first_values}
use Rattle.gltf_inspect_items.proofs.members.few_with.Goals as goal

pub returns-then-many-eq0 : goal.returns-then-many-eq0
returns-then-many-eq0 g c =
    let bytes = slice_get (lent_bytes c.args.buffers.now) in
    few_same g.T.Item c.args.document.now bytes c.args.sparse.now c.args.count c.args.many _ []
    c.requires.many refl c.requires.values
    (λ within. sym (ap (λ m. take m (values_in g.T.Item c.args.document.now bytes c.args.sparse.now))
    c.if-many-eq0.true))

pub returns-in-Some : goal.returns-in-Some
returns-in-Some g c =
    let bytes = slice_get (lent_bytes c.args.buffers.now) in
    few_same g.T.Item c.args.document.now bytes c.args.sparse.now c.args.count c.args.many _
    (items_left c.in-Some.values) c.requires.many refl c.requires.values
    (λ within. first_values g.T.Item c.args.document.now bytes c.args.sparse.now c.args.many
    (items_left c.in-Some.values) within (sym c.in-Some.ensures))
