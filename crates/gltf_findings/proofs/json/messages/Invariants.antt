use Rattle.std.proofs.Common.{◌≡◌, ◌++◌, map, drop}
use Rattle.serde_json.specs.View.{view}
use Rattle.gltf_findings.specs.Reports.{message_data}
use Rattle.gltf_findings.proofs.json.messages.Given as goal

-- what is written and what is left to write is the whole
abbrev pub invariant-loop-finding : goal.invariant-loop-finding
invariant-loop-finding l =
    map view l.messages.items ++ map message_data (drop l.finding-index l.findings)
    ≡ map message_data l.findings
