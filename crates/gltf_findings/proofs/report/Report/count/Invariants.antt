use Rattle.std.proofs.Common.{◌≡◌, ◌+◌, ◌≤◌, drop}
use Rattle.gltf_findings.specs.Reports.{count_of}
use Rattle.gltf_findings.proofs.report.Report.count.Given as goal

-- what is counted and what is left to count is the whole
abbrev pub invariant-loop-i : goal.invariant-loop-i
invariant-loop-i l = record {
  counted : l.count + count_of l.severity (drop l.i l.finding-items)
      ≡ count_of l.severity l.finding-items;
  bound : l.count ≤ l.i;
}
