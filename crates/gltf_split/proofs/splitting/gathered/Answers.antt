use Rattle.std.proofs.Common.{List, codes, subst, ◌∙◌, ◌++◌, ap, Bool}
use Rattle.std.proofs.lemmas.Result.{err_from_is_err_and}
use Rattle.serde_json.specs.View.{view}
use Rattle.gltf_names.specs.Named.{Named}
use Rattle.gltf_buffers.specs.Names.{Names, names_of}
use Rattle.gltf_buffers.specs.Shown.{bytes_of_each}
use Rattle.gltf_edit.specs.Embedded.{items_at}
use Rattle.gltf_detach.specs.Detached.{detached}
use Rattle.gltf_detach.specs.Naming.{buffer_uris, image_uris}
use Rattle.gltf_split.specs.Images.{AreImages, RefusesImages}
use Rattle.gltf_required.specs.Required.{mends_of}
use Rattle.gltf_split.specs.Splits.{drops_as, kept, value_left, bytes_left}
use Rattle.gltf_split.proofs.Made.{failed_behind}
use Rattle.gltf_split.proofs.Refused.{at_images, images_refused, source_refused}
use Rattle.gltf_split.proofs.Whole.{is_split, stands_by}
use Rattle.gltf_split.proofs.splitting.gathered.Goals as goal

pub returns-clause-split : goal.returns-clause-split
returns-clause-split g c =
    let names = names_of (g.S.NamedBytes.bytes_by_name c.args.source.now) in
    let stem = c.args.stem.now in
    let keep = kept c.args.options.now in
    let drop = drops_as c.args.required.now c.args.options.now in
    let was = c.in_ok-value in
    let document = view was.field-0.value in
    let all = bytes_of_each was.field-0.buffers.items in
    let images = c.in_ok-images.images.items in
    let made = rw (c.deref.ensures.value, c.keep.ensures) at c.in_ok-images.ensures.parts in
    let lost = made.0 in
    let shown = subst (λ (ns : Names). AreImages keep ns stem all document images lost)
    was.ensures.kept made.1 in
    let left = c.in_ok-left in
    let value = left.ensures.value
    ∙ ap (λ (b : Bool). value_left b document all) c.drops_as.ensures in
    let bytes = left.ensures.bytes
    ∙ ap (λ (b : Bool). bytes_left b document all) c.drops_as.ensures in
    let us = buffer_uris c.in_ok-buffers.buffers.items in
    let vs = image_uris images in
    let old = g.S.NamedBytes.failures c.args.source.now in
    let new = g.S.NamedBytes.failures c.image_parts.new.names in
    is_split c.args.required.now names c.args.path.now stem keep drop document was.ensures.loaded.0
    was.field-0.buffers.items was.ensures.loaded.1
    (stands_by (mends_of c.args.required.now) c.args.options.now) left.field-0.buffers.items bytes
    record {
      json = c.in_ok-json.json;
      buffers = c.in_ok-buffers.buffers;
      images = c.in_ok-images.images;
    }
    c.in_ok-buffers.ensures.bytes c.in_ok-buffers.ensures.named lost shown
    (view c.in_ok-value-2.value)
    ((rw (c.deref-2.ensures.value, c.deref-3.ensures.value) at c.in_ok-value-2.ensures)
    ∙ ap (detached us vs) value)
    c.in_ok-json.ensures.reads c.in_ok-json.ensures.order c.args.options.now.pretty
    c.in_ok-json.ensures.layout old new
    (made.2 ∙ ap (λ (xs : List Named). lost ++ xs) was.ensures.fine)

pub returns-in_err-value-clause-refused : goal.returns-in_err-value-clause-refused
returns-in_err-value-clause-refused g c =
    let names = names_of (g.S.NamedBytes.bytes_by_name c.args.source.now) in
    let old = g.S.NamedBytes.failures c.args.source.now in
    let new = g.S.NamedBytes.failures c.load_with.new.source in
    let e = c.in_err-value.field-0.0 in
    let exit = c.from_residual in
    let passed = err_from_is_err_and exit.result exit.ensures.1 in
    rw (passed.1, passed.2)
    (source_refused c.args.required.now names c.args.path.now c.args.stem.now
    (kept c.args.options.now)
    (drops_as c.args.required.now c.args.options.now) c.args.options.now.pretty old new e
    c.in_err-value.ensures.refused)

pub returns-in_err-images-clause-refused : goal.returns-in_err-images-clause-refused
returns-in_err-images-clause-refused g c =
    let names = names_of (g.S.NamedBytes.bytes_by_name c.args.source.now) in
    let old = g.S.NamedBytes.failures c.args.source.now in
    let new = g.S.NamedBytes.failures c.image_parts.new.names in
    let was = c.in_ok-value in
    let document = view was.field-0.value in
    let all = bytes_of_each was.field-0.buffers.items in
    let e = c.in_err-images.field-0.0 in
    let ds = items_at (codes "images") document in
    let keep = kept c.args.options.now in
    let told = rw (c.deref.ensures.value, c.keep.ensures) at c.in_err-images.ensures.refused in
    let of_images : RefusesImages keep names all document ds old new e =
    subst (λ (ns : Names). RefusesImages keep ns all document ds old new e) was.ensures.kept
    (subst (λ (ns : List Named).
    RefusesImages keep (names_of (g.S.NamedBytes.bytes_by_name c.load_with.new.source)) all document
    ds ns new e) was.ensures.fine told) in
    let exit = c.from_residual-in_err-images in
    let passed = err_from_is_err_and exit.result exit.ensures.1 in
    rw (passed.1, passed.2)
    (images_refused c.args.required.now names c.args.path.now c.args.stem.now
    (kept c.args.options.now)
    (drops_as c.args.required.now c.args.options.now) c.args.options.now.pretty old new
    document was.ensures.loaded.0 all was.ensures.loaded.1 e of_images)

pub returns-in_err-left-clause-refused : goal.returns-in_err-left-clause-refused
returns-in_err-left-clause-refused g c =
    let names = names_of (g.S.NamedBytes.bytes_by_name c.args.source.now) in
    let old = g.S.NamedBytes.failures c.args.source.now in
    let new = g.S.NamedBytes.failures c.image_parts.new.names in
    let was = c.in_ok-value in
    let document = view was.field-0.value in
    let all = bytes_of_each was.field-0.buffers.items in
    let made = rw (c.deref.ensures.value, c.keep.ensures) at c.in_ok-images.ensures.parts in
    let exit = c.from_residual-in_err-left in
    let passed = err_from_is_err_and exit.result exit.ensures.1 in
    rw (passed.1, passed.2)
    (at_images c.args.required.now names c.args.path.now (kept c.args.options.now) old new document
    was.ensures.loaded.0 all was.ensures.loaded.1
    (failed_behind (kept c.args.options.now) names c.args.stem.now all document
    c.in_ok-images.images.items made.0 old new
    (subst (λ (ns : Names).
    AreImages (kept c.args.options.now) ns c.args.stem.now all document
    c.in_ok-images.images.items made.0) was.ensures.kept made.1)
    (made.2 ∙ ap (λ (xs : List Named). made.0 ++ xs) was.ensures.fine)))

pub returns-in_err-buffers-clause-refused : goal.returns-in_err-buffers-clause-refused
returns-in_err-buffers-clause-refused g c =
    let names = names_of (g.S.NamedBytes.bytes_by_name c.args.source.now) in
    let old = g.S.NamedBytes.failures c.args.source.now in
    let new = g.S.NamedBytes.failures c.image_parts.new.names in
    let was = c.in_ok-value in
    let document = view was.field-0.value in
    let all = bytes_of_each was.field-0.buffers.items in
    let made = rw (c.deref.ensures.value, c.keep.ensures) at c.in_ok-images.ensures.parts in
    let exit = c.from_residual-in_err-buffers in
    let passed = err_from_is_err_and exit.result exit.ensures.1 in
    rw (passed.1, passed.2)
    (at_images c.args.required.now names c.args.path.now (kept c.args.options.now) old new document
    was.ensures.loaded.0 all was.ensures.loaded.1
    (failed_behind (kept c.args.options.now) names c.args.stem.now all document
    c.in_ok-images.images.items made.0 old new
    (subst (λ (ns : Names).
    AreImages (kept c.args.options.now) ns c.args.stem.now all document
    c.in_ok-images.images.items made.0) was.ensures.kept made.1)
    (made.2 ∙ ap (λ (xs : List Named). made.0 ++ xs) was.ensures.fine)))

pub returns-in_err-value-2-clause-refused : goal.returns-in_err-value-2-clause-refused
returns-in_err-value-2-clause-refused g c =
    let names = names_of (g.S.NamedBytes.bytes_by_name c.args.source.now) in
    let old = g.S.NamedBytes.failures c.args.source.now in
    let new = g.S.NamedBytes.failures c.image_parts.new.names in
    let was = c.in_ok-value in
    let document = view was.field-0.value in
    let all = bytes_of_each was.field-0.buffers.items in
    let made = rw (c.deref.ensures.value, c.keep.ensures) at c.in_ok-images.ensures.parts in
    let exit = c.from_residual-in_err-value-2 in
    let passed = err_from_is_err_and exit.result exit.ensures.1 in
    rw (passed.1, passed.2)
    (at_images c.args.required.now names c.args.path.now (kept c.args.options.now) old new document
    was.ensures.loaded.0 all was.ensures.loaded.1
    (failed_behind (kept c.args.options.now) names c.args.stem.now all document
    c.in_ok-images.images.items made.0 old new
    (subst (λ (ns : Names).
    AreImages (kept c.args.options.now) ns c.args.stem.now all document
    c.in_ok-images.images.items made.0) was.ensures.kept made.1)
    (made.2 ∙ ap (λ (xs : List Named). made.0 ++ xs) was.ensures.fine)))

pub returns-in_err-json-clause-refused : goal.returns-in_err-json-clause-refused
returns-in_err-json-clause-refused g c =
    let names = names_of (g.S.NamedBytes.bytes_by_name c.args.source.now) in
    let old = g.S.NamedBytes.failures c.args.source.now in
    let new = g.S.NamedBytes.failures c.image_parts.new.names in
    let was = c.in_ok-value in
    let document = view was.field-0.value in
    let all = bytes_of_each was.field-0.buffers.items in
    let made = rw (c.deref.ensures.value, c.keep.ensures) at c.in_ok-images.ensures.parts in
    let exit = c.from_residual-in_err-json in
    let passed = err_from_is_err_and exit.result exit.ensures.1 in
    rw (passed.1, passed.2)
    (at_images c.args.required.now names c.args.path.now (kept c.args.options.now) old new document
    was.ensures.loaded.0 all was.ensures.loaded.1
    (failed_behind (kept c.args.options.now) names c.args.stem.now all document
    c.in_ok-images.images.items made.0 old new
    (subst (λ (ns : Names).
    AreImages (kept c.args.options.now) ns c.args.stem.now all document
    c.in_ok-images.images.items made.0) was.ensures.kept made.1)
    (made.2 ∙ ap (λ (xs : List Named). made.0 ++ xs) was.ensures.fine)))
