use Rattle.std.proofs.Common.{◌≡◌, [], true, sym, ◌∙◌}
use Rattle.gltf_buffers.specs.Buffers.{sources_of}
use Rattle.gltf_buffers.specs.Shown.{blob_bytes}
use Rattle.gltf_shared.specs.Shown.{answer_of_each, bytes_of_each}
use Rattle.gltf_inspect_files.specs.Buffers.{buffers_findings, is_nil}
use Rattle.gltf_inspect_files.proofs.Answered.{all_are_had, are_shared, nil}
use Rattle.gltf_inspect_files.proofs.layers.inspect_buffers.Goals as goal

pub returns-then-is_clean-clause-read : goal.returns-then-is_clean-clause-read
returns-then-is_clean-clause-read g c =
    let answers = answer_of_each c.in_ok-answers.answers.items in
    let clean : is_nil c.in_ok-faults.faults ≡ true = sym c.is_clean.ensures ∙ c.if-is_clean.true in
    let found : c.in_ok-faults.faults ≡ buffers_findings 0 answers =
    rw (← c.as_slice.ensures.value) c.in_ok-faults.ensures.found in
    let none : buffers_findings 0 answers ≡ [] = sym found ∙ nil c.in_ok-faults.faults clean in
    all_are_had (g.N.AskUpTo.names c.args.names.now) (sources_of c.args.document.now)
    (blob_bytes c.args.blob) answers (bytes_of_each c.in_ok-buffers.buffers.items)
    c.are_bytes_of_all.ensures c.in_ok-answers.ensures.ok none c.in_ok-buffers.ensures

pub returns-then-is_clean-clause-shared : goal.returns-then-is_clean-clause-shared
returns-then-is_clean-clause-shared g c =
    let answers = answer_of_each c.in_ok-answers.answers.items in
    let clean : is_nil c.in_ok-faults.faults ≡ true = sym c.is_clean.ensures ∙ c.if-is_clean.true in
    let found : c.in_ok-faults.faults ≡ buffers_findings 0 answers =
    rw (← c.as_slice.ensures.value) c.in_ok-faults.ensures.found in
    let none : buffers_findings 0 answers ≡ [] = sym found ∙ nil c.in_ok-faults.faults clean in
    are_shared (sources_of c.args.document.now) answers
    (bytes_of_each c.in_ok-buffers.buffers.items) none c.in_ok-buffers.ensures
    c.in_ok-answers.ensures.shared
