use Rattle.std.proofs.Common.{sym}
use Rattle.std.proofs.lemmas.Result.{err_from_is_err_and}
use Rattle.gltf.proofs.Parts.{container_parts, one_container, refuses_container}
use Rattle.gltf.proofs.Parts.{no_container}
use Rattle.gltf.proofs.layers.text_and_blob.Goals as goal

pub returns-in_err-glb-clause-refused : goal.returns-in_err-glb-clause-refused
returns-in_err-glb-clause-refused c =
    let passed = err_from_is_err_and c.from_residual.result c.from_residual.ensures.1 in
    rw (passed.1, passed.2)
    (refuses_container c.args.bytes.now c.in_err-glb.field-0.0
    (sym c.if-starts_with.ensures.value) c.in_err-glb.ensures.fault)

pub returns-in_err-glb-clause-exact : goal.returns-in_err-glb-clause-exact
returns-in_err-glb-clause-exact c =
    let bytes = c.args.bytes.now in
    let begins = sym c.if-starts_with.ensures.value in
    let e = c.in_err-glb.field-0.0 in
    let passed = err_from_is_err_and c.from_residual.result c.from_residual.ensures.1 in
    let refused = refuses_container bytes e begins c.in_err-glb.ensures.fault in
    rw passed.1 (λ text blob parts. no_container bytes e refused text blob
    (container_parts bytes text blob begins parts))

pub returns-in_ok-glb-clause-only : goal.returns-in_ok-glb-clause-only
returns-in_ok-glb-clause-only c = λ text blob parts.
    let bytes = c.args.bytes.now in
    one_container bytes _ text _ blob c.in_ok-glb.ensures.parts.parts
    (container_parts bytes text blob (sym c.if-starts_with.ensures.value) parts)
