use Rattle.std.proofs.Common.{Some, None, sym, ◌∙◌}
use Rattle.gltf_required.specs.Required.{mends_of}
use Rattle.gltf_required.proofs.Values.{read_so, plain_refused, mended_refused}
use Rattle.gltf_required.proofs.records.root_as.Goals as goal

pub returns-in-Some-clause-ok : goal.returns-in-Some-clause-ok
returns-in-Some-clause-ok c =
    read_so (mends_of c.args.required.now) (Some c.in-Some.mends) c.args.text.now
    c.mended_root.result (sym c.mends.ensures ∙ c.in-Some.is) c.mended_root.ensures.ok

pub returns-in-Some-clause-refused : goal.returns-in-Some-clause-refused
returns-in-Some-clause-refused c =
    mended_refused (mends_of c.args.required.now) c.in-Some.mends c.args.text.now
    c.mended_root.result (sym c.mends.ensures ∙ c.in-Some.is) c.mended_root.ensures.refused

pub returns-in-None-clause-ok : goal.returns-in-None-clause-ok
returns-in-None-clause-ok c =
    read_so (mends_of c.args.required.now) None c.args.text.now c.from_slice.result
    (sym c.mends.ensures ∙ c.in-None.is) c.from_slice.ensures.ok

pub returns-in-None-clause-refused : goal.returns-in-None-clause-refused
returns-in-None-clause-refused c =
    plain_refused (mends_of c.args.required.now) c.args.text.now c.from_slice.result
    (sym c.mends.ensures ∙ c.in-None.is) c.from_slice.ensures.refused
