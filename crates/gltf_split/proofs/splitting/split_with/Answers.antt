use Rattle.gltf_buffers.specs.Names.{names_of}
use Rattle.gltf.specs.Shown.{blob_bytes}
use Rattle.gltf_split.specs.Splits.{drops_as, kept}
use Rattle.gltf_split.proofs.Refused.{answer_refused}
use Rattle.gltf_split.proofs.splitting.split_with.Goals as goal

pub returns-in-Ok-clause-accepted : goal.returns-in-Ok-clause-accepted
returns-in-Ok-clause-accepted g c =
    let file = c.in-Ok.field-0 in
    let opened = rw c.as_bytes.ensures.value at c.in-Ok.ensures.opened in (
      opened.root,
      blob_bytes file.blob,
      record {
        document = opened.document;
        left = file.document;
        is_left = opened.is_left;
        rules = opened.rules;
      },
    )

pub returns-in-Err-clause-refused : goal.returns-in-Err-clause-refused
returns-in-Err-clause-refused g c =
    rw c.of_answer.ensures
    (answer_refused c.args.required.now
    (names_of (g.S.NamedBytes.bytes_by_name c.args.source.now)) c.args.path.now c.args.stem.now
    (kept c.args.options.now) (drops_as c.args.required.now c.args.options.now)
    c.args.options.now.pretty (g.S.NamedBytes.failures c.args.source.now)
    (g.S.NamedBytes.failures c.gathered.new.source)
    c.in_ok-set.set c.in_ok-set.ensures.split c.in_ok-set.ensures.layout c.in-Err.error
    (rw c.as_bytes.ensures.value at c.in-Err.ensures.refused))
