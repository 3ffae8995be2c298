use Rattle.std.proofs.Common.{sym}
use Rattle.std.proofs.lemmas.Result.{err_from_is_err_and}
use Rattle.std.specs.Cow.{cow_slice_items}
use Rattle.gltf.specs.Import.{RefusesContainer}
use Rattle.gltf.proofs.Answered.{told_other}
use Rattle.gltf.proofs.Parts.{container_parts, one_container, refuses_owned, no_container}
use Rattle.gltf.proofs.layers.text_and_blob_of.Goals as goal

pub returns-in_err-glb-clause-refused : goal.returns-in_err-glb-clause-refused
returns-in_err-glb-clause-refused c =
    let begins = rw c.as_slice.ensures.value at (sym c.if-starts_with.ensures.value) in
    let passed = err_from_is_err_and c.from_residual.result c.from_residual.ensures.1 in
    rw (passed.1, passed.2)
    (refuses_owned (cow_slice_items c.args.bytes) c.in_err-glb.field-0.0 begins
    c.in_err-glb.ensures.fault)

pub returns-in_err-glb-clause-exact : goal.returns-in_err-glb-clause-exact
returns-in_err-glb-clause-exact c =
    let bytes = cow_slice_items c.args.bytes in
    let begins = rw c.as_slice.ensures.value at (sym c.if-starts_with.ensures.value) in
    let e = c.in_err-glb.field-0.0 in
    let passed = err_from_is_err_and c.from_residual.result c.from_residual.ensures.1 in
    let told = refuses_owned bytes e begins c.in_err-glb.ensures.fault in
    rw (passed.1, passed.2) (λ other text blob parts. no_container bytes e
    (told_other (RefusesContainer bytes) e told other) text blob
    (container_parts bytes text blob begins parts))

pub returns-in_ok-glb-clause-only : goal.returns-in_ok-glb-clause-only
returns-in_ok-glb-clause-only c = λ text blob parts.
    let bytes = cow_slice_items c.args.bytes in
    let begins = rw c.as_slice.ensures.value at (sym c.if-starts_with.ensures.value) in
    one_container bytes _ text _ blob c.in_ok-glb.ensures.parts.parts
    (container_parts bytes text blob begins parts)
