use Rattle.std.proofs.Common.{[], refl, sym, ◌∙◌}
use Rattle.std.proofs.lemmas.List.{append-nil}
use Rattle.serde_json.specs.View.{view}
use Rattle.gltf_bundle.proofs.Taken.{spared, not_spared}
use Rattle.gltf_bundle.proofs.images.taken_in.Goals as goal

pub returns-then-spares-clause-taken : goal.returns-then-spares-clause-taken
returns-then-spares-clause-taken g c =
    let told = spared (g.N.Ask.names c.args.names.now) c.args.index
    (g.N.Ask.failures c.args.names.now) (g.N.Ask.failures c.picture_of.new.names) c.args.keep
    (view c.args.image.now) c.in-Err.error (sym c.spares.ensures ∙ c.if-spares.true)
    c.in-Err.ensures.refused.0 in
    ([], told.0, (told.1, refl), c.in-Err.ensures.refused.1 ∙ sym (append-nil _), told.2)

pub returns-else-spares-clause-refused : goal.returns-else-spares-clause-refused
returns-else-spares-clause-refused g c =
    not_spared (g.N.Ask.names c.args.names.now) c.args.index
    (g.N.Ask.failures c.args.names.now) (g.N.Ask.failures c.picture_of.new.names) c.args.keep
    (view c.args.image.now) c.in-Err.error c.requires (sym c.spares.ensures ∙ c.if-spares.false)
    c.in-Err.ensures.refused.0
