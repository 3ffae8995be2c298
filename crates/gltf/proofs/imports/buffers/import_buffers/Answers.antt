use Rattle.std.proofs.Common.{List, [], Result, Ok, Err}
use Rattle.std.specs.Prelude.{IfErr}
use Rattle.gltf_glb.specs.declared.error.Error.{Error}
use Rattle.gltf_names.specs.Named.{Named}
use Rattle.gltf_buffers.specs.Buffers.{BufferFault, HasBufferFault, IsAskedFor, sources_of}
use Rattle.gltf_buffers.specs.Errors.{FailsOrNames}
use Rattle.gltf_buffers.specs.Names.{Anywhere}
use Rattle.gltf.specs.Shown.{blob_bytes}
use Rattle.gltf.proofs.imports.buffers.import_buffers.Goals as goal

failed_at : {T : Type 0} (P : BufferFault → Type 0) (Q : Named → Type 0) (new : List Named)
    (result : Result T Error) → IfErr result (FailsOrNames P Q [] new)
    → IfErr result (λ e. (failed : List Named) × FailsOrNames P Q [] failed e)
failed_at P Q new (Ok x) told = tt
failed_at P Q new (Err e) told = (new, told)

pub returns-in-Some-clause-err : goal.returns-in-Some-clause-err
returns-in-Some-clause-err c =
    let sources = sources_of c.args.document.now in
    let blob = blob_bytes c.args.blob in
    rw c.in-Some.is
    (failed_at (HasBufferFault Anywhere sources blob) (IsAskedFor Anywhere sources blob)
    c.read_buffers.new.names.log.failures.names c.read_buffers.result
    (rw (c.deref.ensures.value, c.as_json.ensures, c.new-folder.ensures.failures)
    at c.read_buffers.ensures.err))
