use Rattle.gltf_buffers.specs.Names.{Nowhere}
use Rattle.gltf_inspect_files.proofs.Whole.{all_fine, all_its_own, none_accepted}
use Rattle.gltf_inspect_files.proofs.inspect.inspect_slice.Goals as goal

pub returns-clause-report : goal.returns-clause-report
returns-clause-report c =
    let own = c.owned.ensures in
    all_its_own Nowhere c.args.bytes.now c.in_ok-file.file c.owned.result own.report own.cause
    own.imported c.in_ok-file.ensures.whole

pub returns-clause-fine : goal.returns-clause-fine
returns-clause-fine c =
    all_fine Nowhere c.args.bytes.now c.owned.result c.what_is_refused_is_reported.ensures.reported
    (returns-clause-report c)

pub returns-clause-exact : goal.returns-clause-exact
returns-clause-exact c =
    none_accepted c.args.bytes.now c.owned.result c.what_is_refused_is_not_accepted.ensures
    (returns-clause-report c)
