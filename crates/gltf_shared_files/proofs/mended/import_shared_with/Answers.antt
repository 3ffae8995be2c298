use Rattle.std.proofs.Common.{inl, inr}
use Rattle.std.proofs.lemmas.Result.{err_from_is_err_and}
use Rattle.gltf_buffers.specs.Shown.{blob_bytes}
use Rattle.gltf_options.specs.Names.{texts}
use Rattle.gltf_shared_files.proofs.WithMends.{of_document, of_buffers}
use Rattle.gltf_shared_files.proofs.mended.import_shared_with.Goals as goal

pub returns-in_err-bytes-clause-refused : goal.returns-in_err-bytes-clause-refused
returns-in_err-bytes-clause-refused g c =
    let passed = err_from_is_err_and c.from_residual.result c.from_residual.ensures.1 in
    rw (passed.1, passed.2) (inr (inl c.in_err-bytes.ensures.unanswered))

pub returns-in_err-opened-clause-refused : goal.returns-in_err-opened-clause-refused
returns-in_err-opened-clause-refused g c =
    let exit = c.from_residual-in_err-opened in
    let passed = err_from_is_err_and exit.result exit.ensures.1 in
    rw (passed.1, passed.2) (of_document c.args.options.now
    (g.N.AskUpTo.names c.args.source.now) c.args.path.now
    c.in_ok-bytes.bytes.items (g.N.AskUpTo.failures c.args.source.now)
    (g.N.AskUpTo.failures c.ask_up_to.new.self) c.in_err-opened.field-0.0
    c.in_ok-bytes.ensures.gives c.in_ok-bytes.ensures.fine c.in_err-opened.ensures.refused)

pub returns-in_err-buffers-clause-refused : goal.returns-in_err-buffers-clause-refused
returns-in_err-buffers-clause-refused g c =
    let exit = c.from_residual-in_err-buffers in
    let passed = err_from_is_err_and exit.result exit.ensures.1 in
    let file = c.in_ok-opened.opened in
    rw (passed.1, passed.2) (of_buffers c.args.options.now
    (g.N.AskUpTo.names c.args.source.now) c.args.path.now
    c.in_ok-bytes.bytes.items file.gltf.document (texts file.also_required.items)
    (blob_bytes file.gltf.blob)
    (g.N.AskUpTo.failures c.args.source.now) (g.N.AskUpTo.failures c.shared_buffers.new.names)
    c.in_err-buffers.field-0.0 c.in_ok-bytes.ensures.gives c.in_ok-opened.ensures.valid
    (rw (c.in_ok-bytes.ensures.kept, c.in_ok-bytes.ensures.fine) at c.in_err-buffers.ensures.err))

pub returns-clause-accepted : goal.returns-clause-accepted
returns-clause-accepted g c =
    let file = c.in_ok-opened.opened in
    record {
      bytes = c.in_ok-bytes.bytes.items;
      gives = c.in_ok-bytes.ensures.gives;
      accepted = record {
        blob = blob_bytes file.gltf.blob;
        valid = c.in_ok-opened.ensures.valid;
        data_ = rw c.in_ok-bytes.ensures.kept at c.in_ok-buffers.ensures.ok;
      };
    }

pub returns-clause-asked : goal.returns-clause-asked
returns-clause-asked g c = λ can. (
  c.ask_up_to.new.self,
  c.in_ok-bytes.ensures.asked,
  (rw c.in_ok-bytes.ensures.kept at c.in_ok-buffers.ensures.asked) can,
)
