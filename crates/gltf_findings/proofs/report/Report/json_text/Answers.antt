use Rattle.gltf_findings.proofs.Depth.{shallow}
use Rattle.gltf_findings.proofs.report.Report.json_text.Goals as goal

pub returns : goal.returns
returns c =
    rw c.in_ok-value.ensures at (c.in_ok-text.ensures.reads_back
    (rw c.in_ok-value.ensures (shallow c.args.uri.now c.args.self.now)))
