use Rattle.std.proofs.Common.{refl, ◌∙◌}
use Rattle.std.proofs.lemmas.Result.{IfOk-weaker}
use Rattle.gltf_inspect_files.specs.Layers.{IsShared}
use Rattle.gltf_inspect_files.specs.Unkept.{IsWith}
use Rattle.gltf_inspect_files.proofs.Asking.{always, shared_as}
use Rattle.gltf_inspect_files.proofs.Whole.{of_document, whole_report}
use Rattle.gltf_inspect_files.proofs.unkept.inspect_whole.Goals as goal

pub with_unkept-requires : goal.with_unkept-requires
with_unkept-requires g c =
    of_document c.args.share _ c.args.bytes.now c.in_ok-file-2.file
    (c.in_ok-file-2.ensures.whole _ c.args.bytes.now refl c.in_ok-file.ensures.layers)

pub returns-clause-whole : goal.returns-clause-whole
returns-clause-whole g c =
    IfOk-weaker c.with_unkept.result (IsWith c.args.bytes.now c.in_ok-file-2.file) _
    (λ whole is. whole_report c.args.share _ c.args.bytes.now c.in_ok-file-2.file whole
    (c.in_ok-file-2.ensures.whole _ c.args.bytes.now refl c.in_ok-file.ensures.layers) is)
    c.with_unkept.ensures

pub returns-clause-shared : goal.returns-clause-shared
returns-clause-shared g c =
    IfOk-weaker c.with_unkept.result (IsWith c.args.bytes.now c.in_ok-file-2.file) IsShared
    (λ whole is. shared_as c.in_ok-file.file whole
    (is.imported ∙ c.in_ok-file-2.ensures.imported) c.in_ok-file.ensures.shared)
    c.with_unkept.ensures

pub returns-clause-asked : goal.returns-clause-asked
returns-clause-asked g c = always c.with_unkept.result _ c.in_ok-file.ensures.asked
