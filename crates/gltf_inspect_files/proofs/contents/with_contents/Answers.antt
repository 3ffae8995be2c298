use Rattle.gltf_inspect_files.proofs.Wholes.{of_whole}
use Rattle.gltf_inspect_files.proofs.contents.with_contents.Goals as goal

pub returns-clause-whole : goal.returns-clause-whole
returns-clause-whole c =
    of_whole c.args.share c.args.len c.args.file c.with_report.result c.in_ok-report.report
    c.in_ok-report.ensures c.with_report.ensures.report c.with_report.ensures.cause
    c.with_report.ensures.imported
