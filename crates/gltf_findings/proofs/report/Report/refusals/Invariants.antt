use Rattle.std.proofs.Common.{◌≡◌, ◌+◌, ◌≤◌, drop}
use Rattle.gltf_findings.specs.Reports.{refusal_count}
use Rattle.gltf_findings.proofs.report.Report.refusals.Given as goal

-- what is counted and what is left to count is the whole
abbrev pub invariant-loop-i : goal.invariant-loop-i
invariant-loop-i l = record {
  counted : l.count + refusal_count (drop l.i l.finding-items)
      ≡ refusal_count l.finding-items;
  bound : l.count ≤ l.i;
}
