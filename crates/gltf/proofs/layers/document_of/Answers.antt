use Rattle.std.proofs.Common.{inr}
use Rattle.std.proofs.lemmas.Result.{err_from_is_err_and}
use Rattle.std.specs.Cow.{cow_slice_items}
use Rattle.gltf_glb.specs.Glb.{items_of}
use Rattle.gltf.specs.Errors.{TellsRules}
use Rattle.gltf.specs.Import.{RefusesDocument}
use Rattle.gltf.specs.Shown.{blob_bytes}
use Rattle.gltf.proofs.Answered.{told_more}
use Rattle.gltf.proofs.LayerLaws.{no_valid_document, same_only}
use Rattle.gltf.proofs.Room.{in_room}
use Rattle.gltf.proofs.layers.document_of.Goals as goal

pub returns-in_err-root-clause-exact : goal.returns-in_err-root-clause-exact
returns-in_err-root-clause-exact c =
    let passed = err_from_is_err_and c.from_residual.result c.from_residual.ensures.1 in
    rw (passed.1, passed.2)
    (λ other s blob valid. c.in_err-root.ensures.exact other s blob valid.document)

pub returns-in_err-document-clause-refused : goal.returns-in_err-document-clause-refused
returns-in_err-document-clause-refused c =
    let exit = c.from_residual-in_err-document in
    let passed = err_from_is_err_and exit.result exit.ensures.1 in
    rw (passed.1, passed.2)
    (told_more (TellsRules c.in_ok-root.root) (RefusesDocument (cow_slice_items c.args.bytes))
    c.in_err-document.field-0.0
    (λ tells. inr (record {
      root = c.in_ok-root.root;
      blob = items_of c.in_ok-root.blob;
      document = c.in_ok-root.ensures.document;
      fails = tells;
    }))
    c.in_err-document.ensures.refused)

pub returns-in_err-document-clause-exact : goal.returns-in_err-document-clause-exact
returns-in_err-document-clause-exact c =
    let exit = c.from_residual-in_err-document in
    let passed = err_from_is_err_and exit.result exit.ensures.1 in
    rw (passed.1, passed.2) (no_valid_document (cow_slice_items c.args.bytes) c.in_ok-root.root
    (items_of c.in_ok-root.blob) c.in_err-document.field-0.0 c.in_ok-root.ensures.only
    (λ s. c.what_shows_the_same_breaks_the_same_rules.ensures s c.in_ok-root.root)
    c.in_err-document.ensures.refused)

pub returns-in_err-blob-clause-exact : goal.returns-in_err-blob-clause-exact
returns-in_err-blob-clause-exact c =
    let exit = c.from_residual-in_err-blob in
    let passed = err_from_is_err_and exit.result exit.ensures.1 in
    rw (passed.1, passed.2) (λ other. absurd (other c.in_err-blob.ensures.refused))

pub returns-clause-only : goal.returns-clause-only
returns-clause-only c =
    same_only (cow_slice_items c.args.bytes) c.in_ok-root.root c.in_ok-document.document
    (items_of c.in_ok-root.blob) (blob_bytes c.in_ok-blob.blob) c.in_ok-document.ensures.same
    c.in_ok-blob.ensures.ok c.in_ok-root.ensures.only

pub returns-clause-moved : goal.returns-clause-moved
returns-clause-moved c =
    in_room c.args.bytes c.in_ok-root.blob c.in_ok-blob.blob c.in_ok-root.ensures.moved
    c.in_ok-blob.ensures.room
