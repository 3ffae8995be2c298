use Rattle.std.proofs.Common.{◌≡◌, ◌≤◌, Result, Ok, Err, Some, Global, String}
use Rattle.std.proofs.lemmas.Str.{IsUtf8-string_bytes}
use Rattle.std.specs.Prelude.{IfOk, string_bytes}
use Rattle.serde_json.specs.Data.{Data, depth}
use Rattle.serde_json.specs.Read.{read, max_depth}
use Rattle.serde_json.specs.View.{view}
use Rattle.gltf_json.specs.Reading.{Reads}
use Rattle.gltf_split.proofs.splitting.written.Goals as goal

printed : {E : Type 0} (r : Result (String Global) E) (d : Data)
    → IfOk r (λ s. depth d ≤ max_depth → read (string_bytes s) ≡ Some d)
    → IfOk r (λ s. depth d ≤ max_depth → Reads (string_bytes s) d)
printed (Ok s) d reads = λ short. (IsUtf8-string_bytes s, reads short)
printed (Err e) d reads = tt

pub returns-then-pretty-clause-reads : goal.returns-then-pretty-clause-reads
returns-then-pretty-clause-reads c =
    printed c.to_string_pretty.result (view c.args.value.now) c.to_string_pretty.ensures.reads_back

pub returns-clause-reads : goal.returns-clause-reads
returns-clause-reads c =
    printed c.to_string.result (view c.args.value.now) c.to_string.ensures.reads_back
