use Rattle.std.proofs.Common.{List, subst, codes, ◌∙◌, ap, ◌++◌}
use Rattle.std.proofs.lemmas.Result.{err_from_is_err_and}
use Rattle.serde_json.specs.View.{view}
use Rattle.gltf_names.specs.Named.{Named}
use Rattle.gltf_buffers.specs.Names.{Names, names_of}
use Rattle.gltf.specs.Shown.{bytes_of_each}
use Rattle.gltf_edit.specs.Embedded.{items_at}
use Rattle.gltf_bundle.specs.Images.{AreTaken, RefusesImages}
use Rattle.gltf_bundle.proofs.Refused.{images_refused, load_refused}
use Rattle.gltf_bundle.proofs.loading.gather.Goals as goal

pub returns-clause-gathered : goal.returns-clause-gathered
returns-clause-gathered g c =
    let was = c.in_ok-value in
    let taken = c.in_ok-pictures.ensures.taken in (
      was.ensures.loaded.0,
      bytes_of_each was.field-0.buffers.items,
      taken.0,
      taken.1,
      record {
        source = was.ensures.loaded.1;
        taken =
            subst (λ (ns : Names).
            AreTaken c.args.keep ns (view was.field-0.value) c.in_ok-pictures.pictures.items
            taken.0 taken.1)
            was.ensures.kept taken.2;
      },
      taken.3,
      taken.4 ∙ ap (λ (xs : List Named). taken.1 ++ xs) was.ensures.fine,
    )

pub returns-in_err-value-clause-refused : goal.returns-in_err-value-clause-refused
returns-in_err-value-clause-refused g c =
    let names = names_of (g.S.NamedBytes.bytes_by_name c.args.source.now) in
    let old = g.S.NamedBytes.failures c.args.source.now in
    let new = g.S.NamedBytes.failures c.load_with.new.source in
    let exit = c.from_residual in
    let passed = err_from_is_err_and exit.result exit.ensures.1 in
    rw (passed.1, passed.2)
    (load_refused c.args.required.now names c.args.path.now c.args.keep old new
    c.in_err-value.field-0.0 c.in_err-value.ensures.refused)

pub returns-in_err-pictures-clause-refused : goal.returns-in_err-pictures-clause-refused
returns-in_err-pictures-clause-refused g c =
    let keep = c.args.keep in
    let names = names_of (g.S.NamedBytes.bytes_by_name c.args.source.now) in
    let old = g.S.NamedBytes.failures c.args.source.now in
    let new = g.S.NamedBytes.failures c.pictures_of.new.names in
    let was = c.in_ok-value in
    let e = c.in_err-pictures.field-0.0 in
    let ds = items_at (codes "images") (view was.field-0.value) in
    let told = c.in_err-pictures.ensures.refused in
    let of_images : RefusesImages keep names ds old new e =
    subst (λ (ns : Names). RefusesImages keep ns ds old new e) was.ensures.kept
    (subst (λ (ns : List Named).
    RefusesImages keep (names_of (g.S.NamedBytes.bytes_by_name c.load_with.new.source)) ds ns new e)
    was.ensures.fine told) in
    let exit = c.from_residual-in_err-pictures in
    let passed = err_from_is_err_and exit.result exit.ensures.1 in
    rw (passed.1, passed.2)
    (images_refused c.args.required.now names c.args.path.now keep old new
    (view was.field-0.value)
    was.ensures.loaded.0 (bytes_of_each was.field-0.buffers.items) e was.ensures.loaded.1
    of_images)
