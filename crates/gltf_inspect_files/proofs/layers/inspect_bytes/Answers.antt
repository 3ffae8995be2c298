use Rattle.gltf.specs.Import.{RefusesRecords}
use Rattle.gltf_inspect_files.proofs.Asking.{none_asked_of, asked_of}
use Rattle.gltf_inspect_files.proofs.Errors.{not_memory, other_cause}
use Rattle.gltf_inspect_files.proofs.layers.inspect_bytes.Goals as goal

pub returns-in_ok-report-in-Err-clause-layers : goal.returns-in_ok-report-in-Err-clause-layers
returns-in_ok-report-in-Err-clause-layers g c =
    let memory = c.in_ok-report-in-Err.ensures.memory in
    record {
      refused = other_cause (RefusesRecords c.args.bytes.now) c.in-Err.cause memory
          c.in-Err.ensures.refused;
      none = c.in-Err.ensures.exact (not_memory c.in-Err.cause memory);
      same = c.in_ok-report-in-Err.ensures.found;
    }

pub returns-in_ok-report-in-Err-clause-asked : goal.returns-in_ok-report-in-Err-clause-asked
returns-in_ok-report-in-Err-clause-asked g c = λ can.
    none_asked_of g.N.AskUpTo.asks c.args.bytes.now c.args.names.now

pub returns-in-Ok-clause-asked : goal.returns-in-Ok-clause-asked
returns-in-Ok-clause-asked g c = λ can.
    asked_of g.N.AskUpTo.asks c.args.bytes.now c.in-Ok.file.document _ c.args.names.now
    c.inspect_records.new.names c.inspect_records.result c.in-Ok.ensures.document
    (c.inspect_records.ensures.asked can)
