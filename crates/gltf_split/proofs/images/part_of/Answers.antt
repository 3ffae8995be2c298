use Rattle.std.proofs.Common.{sym, ◌∙◌}
use Rattle.serde_json.specs.View.{view}
use Rattle.gltf_buffers.specs.Shown.{bytes_of_each}
use Rattle.gltf_split.proofs.Refused.{spared, not_spared}
use Rattle.gltf_split.proofs.images.part_of.Goals as goal

pub returns-then-spares-clause-part : goal.returns-then-spares-clause-part
returns-then-spares-clause-part g c =
    spared (g.N.Ask.names c.args.names.now) (bytes_of_each c.args.buffers.now)
    (view c.args.document.now) c.args.index (g.N.Ask.failures c.args.names.now)
    (g.N.Ask.failures c.own_bytes.new.names) c.args.keep (view c.args.image.now) c.in-Err.error
    (sym c.spares.ensures ∙ c.if-spares.true) c.in-Err.ensures.refused

pub returns-in-Err-clause-refused : goal.returns-in-Err-clause-refused
returns-in-Err-clause-refused g c =
    not_spared (g.N.Ask.names c.args.names.now) (bytes_of_each c.args.buffers.now)
    (view c.args.document.now) c.args.index (g.N.Ask.failures c.args.names.now)
    (g.N.Ask.failures c.own_bytes.new.names) c.args.keep (view c.args.image.now) c.in-Err.error
    (sym c.spares.ensures ∙ c.if-spares.false) c.in-Err.ensures.refused
