use Rattle.std.proofs.lemmas.Result.{err_from_is_err_and}
use Rattle.gltf_options.specs.Besides.{listed}
use Rattle.gltf_options.specs.Broken.{RefusesBesides}
use Rattle.gltf_options.specs.Places.{TellsRulesInFile}
use Rattle.gltf_options.proofs.Documents.{refuses_file, told_more}
use Rattle.gltf_options.proofs.besides.without_names.Goals as goal

pub returns-in_err-document-clause-refused : goal.returns-in_err-document-clause-refused
returns-in_err-document-clause-refused c =
    let exit = c.from_residual-in_err-document in
    let passed = err_from_is_err_and exit.result exit.ensures.1 in
    let also = listed c.args.options.now in
    let left = c.in_ok-root.root in
    let places = c.in_ok-root.places.items in
    rw (passed.1, passed.2)
    (told_more (TellsRulesInFile places left) (RefusesBesides also c.args.raw.document)
    c.in_err-document.field-0.0
    (refuses_file also c.args.raw.document left places c.in_err-document.field-0.0
    (rw c.into_json.ensures at c.in_ok-root.ensures.root)
    (rw c.into_json.ensures at c.in_ok-root.ensures.places))
    (rw c.deref.ensures.value at c.in_err-document.ensures.refused))
