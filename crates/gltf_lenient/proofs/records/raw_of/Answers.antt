use Rattle.std.proofs.lemmas.Result.{err_from_is_err_and}
use Rattle.std.specs.Cow.{cow_slice_items}
use Rattle.gltf_glb.specs.Glb.{items_of}
use Rattle.gltf.specs.Shown.{blob_bytes}
use Rattle.gltf_lenient.specs.Import.{RefusesValue}
use Rattle.gltf_lenient.proofs.Layers.{refuses_parts, refuses_text, no_mended, only_mended}
use Rattle.gltf_lenient.proofs.Layers.{same_only}
use Rattle.gltf_lenient.proofs.records.raw_of.Goals as goal

pub returns-in_err-text-clause-refused : goal.returns-in_err-text-clause-refused
returns-in_err-text-clause-refused c =
    let passed = err_from_is_err_and c.from_residual.result c.from_residual.ensures.1 in
    rw (passed.1, passed.2) (refuses_parts c.args.mends.now (cow_slice_items c.args.bytes)
    c.in_err-text.field-0.0 c.in_err-text.ensures.refused)

pub returns-in_err-text-clause-exact : goal.returns-in_err-text-clause-exact
returns-in_err-text-clause-exact c =
    let passed = err_from_is_err_and c.from_residual.result c.from_residual.ensures.1 in
    rw (passed.1, passed.2) (λ other s blob document.
    c.in_err-text.ensures.exact other document.text blob document.parts)

pub returns-in_err-root-clause-refused : goal.returns-in_err-root-clause-refused
returns-in_err-root-clause-refused c =
    let cause = c.in_err-root.field-0.0 in
    let exit = c.from_residual-in_err-root in
    let passed = err_from_is_err_and exit.result exit.ensures.1 in
    let text = cow_slice_items c.in_ok-text.text in
    let fails : RefusesValue c.args.mends.now text cause =
    rw c.as_slice.ensures.value at c.in_err-root.ensures.refused in
    rw (passed.1, passed.2)
    (refuses_text c.args.mends.now (cow_slice_items c.args.bytes) text
    (items_of c.in_ok-text.blob) cause c.in_ok-text.ensures.parts fails)

pub returns-in_err-root-clause-exact : goal.returns-in_err-root-clause-exact
returns-in_err-root-clause-exact c =
    let exit = c.from_residual-in_err-root in
    let passed = err_from_is_err_and exit.result exit.ensures.1 in
    let none = rw c.as_slice.ensures.value at c.in_err-root.ensures.exact in
    rw (passed.1, passed.2)
    (no_mended c.args.mends.now (cow_slice_items c.args.bytes) (cow_slice_items c.in_ok-text.text)
    (items_of c.in_ok-text.blob) c.in_err-root.field-0.0 c.in_ok-text.ensures.only none)

pub returns-in_err-blob-clause-exact : goal.returns-in_err-blob-clause-exact
returns-in_err-blob-clause-exact c =
    let exit = c.from_residual-in_err-blob in
    let passed = err_from_is_err_and exit.result exit.ensures.1 in
    rw (passed.1, passed.2) (λ other. absurd (other c.in_err-blob.ensures.refused))

pub returns-clause-only : goal.returns-clause-only
returns-clause-only c =
    let alike = rw c.as_slice.ensures.value at c.in_ok-root.ensures.alike in
    same_only c.args.mends.now (cow_slice_items c.args.bytes) c.in_ok-root.root
    c.from_json_without_validation.result (items_of c.in_ok-text.blob)
    (blob_bytes c.in_ok-blob.blob) c.from_json_without_validation.ensures
    c.in_ok-blob.ensures.ok
    (only_mended c.args.mends.now (cow_slice_items c.args.bytes) (cow_slice_items c.in_ok-text.text)
    (items_of c.in_ok-text.blob) c.in_ok-root.root c.in_ok-text.ensures.only alike)
