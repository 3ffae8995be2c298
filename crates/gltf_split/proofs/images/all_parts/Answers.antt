use Rattle.std.proofs.Common.{List, [], ◌∷◌, ◌+◌, ◌∙◌, ◌++◌, refl, ap, sym, arith, subst}
use Rattle.std.proofs.Common.{append_assoc}
use Rattle.std.proofs.lemmas.Result.{err_from_is_err_and}
use Rattle.serde_json.specs.View.{view}
use Rattle.gltf_names.specs.Named.{Named}
use Rattle.gltf_buffers.specs.Names.{Names}
use Rattle.gltf_buffers.specs.Shown.{bytes_of_each}
use Rattle.gltf_split.specs.Images.{MayBePart, RefusesKept}
use Rattle.gltf_split.proofs.Made.{one_more, failed_at, none_failed}
use Rattle.gltf_split.proofs.Refused.{one_refused}
use Rattle.gltf_split.proofs.images.all_parts.Goals as goal

pub returns-in_err-all-clause-refused : goal.returns-in_err-all-clause-refused
returns-in_err-all-clause-refused g c =
    let passed = err_from_is_err_and c.from_residual.result c.from_residual.ensures.1 in
    rw (passed.1, passed.2) (
      refl,
      none_failed c.args.keep (g.N.Ask.names c.args.names.now) c.args.stem.now
          (bytes_of_each c.args.buffers.now) (view c.args.document.now) c.args.images.now
          (g.N.Ask.failures c.args.names.now),
    )

pub returns-in_err-part-clause-refused : goal.returns-in_err-part-clause-refused
returns-in_err-part-clause-refused g c =
    let far = c.loop-i.invariant in
    let keep = c.args.keep in
    let names = g.N.Ask.names c.args.names.now in
    let old = g.N.Ask.failures c.args.names.now in
    let new = g.N.Ask.failures c.part_of.new.names in
    let image = c.index-images-i.result in
    let buffers = bytes_of_each c.args.buffers.now in
    let document = view c.args.document.now in
    let e = c.in_err-part.field-0.0 in
    let told : RefusesKept keep names buffers document c.loop-i.i (far.lost ++ old) new (view image)
    e =
    subst (λ (ns : Names).
    RefusesKept keep ns buffers document c.loop-i.i (far.lost ++ old) new (view image) e)
    far.kept
    (subst (λ (was : List Named).
    RefusesKept keep (g.N.Ask.names c.loop-i.names) buffers document c.loop-i.i was new (view image)
    e) far.fine c.in_err-part.ensures.refused) in
    let exit = c.from_residual-in_err-part in
    let passed = err_from_is_err_and exit.result exit.ensures.1 in
    rw (passed.1, passed.2)
    (one_refused keep names c.args.stem.now buffers document old new c.requires c.args.images.now
    c.loop-i.i image e c.loop-i.all.items far.lost far.far (omega arith) c.index-images-i.is told)

pub loop-i-preserved : goal.loop-i-preserved
loop-i-preserved g c =
    let far = c.loop-i.invariant in
    let keep = c.args.keep in
    let names = g.N.Ask.names c.args.names.now in
    let old = g.N.Ask.failures c.args.names.now in
    let buffers = bytes_of_each c.args.buffers.now in
    let document = view c.args.document.now in
    let image = c.index-images-i.result in
    let p = c.in_ok-part.part in
    let made = c.in_ok-part.ensures in
    let first = made.part.0 in
    let here : MayBePart keep names c.args.stem.now buffers document c.loop-i.i (view image) p
    first =
    subst (λ (ns : Names).
    MayBePart keep ns c.args.stem.now buffers document c.loop-i.i (view image) p first)
    far.kept made.part.1 in
    record {
      kept = made.kept ∙ far.kept;
      lost = first ++ far.lost;
      fine =
          made.part.2 ∙ ap (λ (xs : List Named). first ++ xs) far.fine
          ∙ sym (append_assoc first far.lost old);
      far =
          rw c.in_ok-push.ensures.items
          (one_more keep names c.args.stem.now buffers document c.args.images.now c.loop-i.i
          c.loop-i.all.items far.lost image p first (omega arith) c.index-images-i.is far.far here);
    }

pub loop-i-init : goal.loop-i-init
loop-i-init g c = record {
  kept = refl;
  lost = [];
  fine = refl;
  far = rw c.in_ok-all.ensures.items refl;
}

pub returns-in_err-push-clause-refused : goal.returns-in_err-push-clause-refused
returns-in_err-push-clause-refused g c =
    let far = c.loop-i.invariant in
    let keep = c.args.keep in
    let names = g.N.Ask.names c.args.names.now in
    let old = g.N.Ask.failures c.args.names.now in
    let stem = c.args.stem.now in
    let buffers = bytes_of_each c.args.buffers.now in
    let document = view c.args.document.now in
    let image = c.index-images-i.result in
    let p = c.in_ok-part.part in
    let made = c.in_ok-part.ensures in
    let first = made.part.0 in
    let here : MayBePart keep names stem buffers document c.loop-i.i (view image) p first =
    subst (λ (ns : Names). MayBePart keep ns stem buffers document c.loop-i.i (view image) p first)
    far.kept made.part.1 in
    let more = one_more keep names stem buffers document c.args.images.now c.loop-i.i
    c.loop-i.all.items far.lost image p first (omega arith) c.index-images-i.is far.far here in
    let exit = c.from_residual-in_err-push in
    let passed = err_from_is_err_and exit.result exit.ensures.1 in
    rw (passed.1, passed.2) (
      refl,
      failed_at keep names stem buffers document c.args.images.now (c.loop-i.i + 1)
          (c.loop-i.all.items ++ p ∷ []) (first ++ far.lost) old
          (g.N.Ask.failures c.part_of.new.names) more
          (made.part.2 ∙ ap (λ (xs : List Named). first ++ xs) far.fine
          ∙ sym (append_assoc first far.lost old)),
    )
