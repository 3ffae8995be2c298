use Rattle.std.proofs.Common.{◌++◌, ◌∷◌, ◌+◌, ap, ◌∙◌, arith, ℕ, List, take, subst}
use Rattle.std.proofs.Common.{append_assoc, sym, refl, []}
use Rattle.std.proofs.lemmas.List.{append-nil}
use Rattle.std.proofs.lemmas.Result.{err_from_is_err_and}
use Rattle.serde_json.specs.View.{view, items_view}
use Rattle.serde_json.specs.declared.value.Value.{Value}
use Rattle.gltf_names.specs.Named.{Named}
use Rattle.gltf_buffers.specs.Names.{Names}
use Rattle.gltf_bundle.specs.Images.{AllTaken, Takes, RefusesKept}
use Rattle.gltf_bundle.proofs.Taken.{one_more, taken_more, first_refused, failed_at, none_failed}
use Rattle.gltf_bundle.proofs.images.all_taken.Goals as goal

pub returns-in_err-all-clause-refused : goal.returns-in_err-all-clause-refused
returns-in_err-all-clause-refused g c =
    let passed = err_from_is_err_and c.from_residual.result c.from_residual.ensures.1 in
    rw (passed.1, passed.2) (
      refl,
      none_failed c.args.keep (g.N.Ask.names c.args.names.now) c.args.images.now
          (g.N.Ask.failures c.args.names.now),
    )

pub returns-in_err-picture-clause-refused : goal.returns-in_err-picture-clause-refused
returns-in_err-picture-clause-refused g c =
    let far = c.loop-i.invariant in
    let keep = c.args.keep in
    let names = g.N.Ask.names c.args.names.now in
    let old = g.N.Ask.failures c.args.names.now in
    let new = g.N.Ask.failures c.taken_in.new.names in
    let image = c.index-images-i.result in
    let e = c.in_err-picture.field-0.0 in
    let told : RefusesKept keep names c.loop-i.i (far.lost ++ old) new (view image) e =
    subst (λ (ns : Names). RefusesKept keep ns c.loop-i.i (far.lost ++ old) new (view image) e)
    far.kept
    (subst (λ (was : List Named).
    RefusesKept keep (g.N.Ask.names c.loop-i.names) c.loop-i.i was new (view image) e) far.fine
    c.in_err-picture.ensures.refused) in
    let exit = c.from_residual-in_err-picture in
    let passed = err_from_is_err_and exit.result exit.ensures.1 in
    rw (passed.1, passed.2)
    (first_refused keep names c.args.images.now c.loop-i.i image c.loop-i.all.items far.taken
    far.lost old new e (omega arith) c.index-images-i.is far.far told)

pub loop-i-preserved : goal.loop-i-preserved
loop-i-preserved g c =
    let far = c.loop-i.invariant in
    let keep = c.args.keep in
    let names = g.N.Ask.names c.args.names.now in
    let old = g.N.Ask.failures c.args.names.now in
    let vs = c.args.images.now in
    let image = c.index-images-i.result in
    let p = c.in_ok-picture.picture in
    let made = c.in_ok-picture.ensures in
    let one = made.taken.0 in
    let first = made.taken.1 in
    let takes : Takes keep names (view image) p one first =
    subst (λ (ns : Names). Takes keep ns (view image) p one first) far.kept made.taken.2 in
    record {
      kept = made.kept ∙ far.kept;
      taken = far.taken ++ one;
      lost = first ++ far.lost;
      fine =
          made.taken.4 ∙ ap (λ (xs : List Named). first ++ xs) far.fine
          ∙ sym (append_assoc first far.lost old);
      far =
          rw (
            c.in_ok-push.ensures.items,
            taken_more vs c.loop-i.i image
                (omega arith) c.index-images-i.is,
          )
          (one_more keep names (take c.loop-i.i vs) c.loop-i.all.items far.taken far.lost far.far
          image p one first takes);
      behind =
          made.taken.3 ∙ ap (λ (xs : List (List ℕ)). xs ++ one) far.behind
          ∙ append_assoc _ far.taken one;
    }

pub loop-i-init : goal.loop-i-init
loop-i-init g c = record {
  kept = refl;
  taken = [];
  lost = [];
  fine = refl;
  far = rw c.in_ok-all.ensures.items (refl, refl);
  behind = sym (append-nil _);
}

pub returns-in_err-push-clause-refused : goal.returns-in_err-push-clause-refused
returns-in_err-push-clause-refused g c =
    let far = c.loop-i.invariant in
    let keep = c.args.keep in
    let names = g.N.Ask.names c.args.names.now in
    let old = g.N.Ask.failures c.args.names.now in
    let image = c.index-images-i.result in
    let made = c.in_ok-picture.ensures in
    let first = made.taken.1 in
    let takes : Takes keep names (view image) c.in_ok-picture.picture made.taken.0 first =
    subst (λ (ns : Names).
    Takes keep ns (view image) c.in_ok-picture.picture made.taken.0 first) far.kept made.taken.2 in
    let more = one_more keep names (take c.loop-i.i c.args.images.now) c.loop-i.all.items far.taken
    far.lost far.far image c.in_ok-picture.picture made.taken.0 first takes in
    let here = subst (λ (vs : List Value).
    AllTaken keep names (items_view vs) (c.loop-i.all.items ++ c.in_ok-picture.picture ∷ [])
    (far.taken ++ made.taken.0) (first ++ far.lost))
    (sym (taken_more c.args.images.now c.loop-i.i image (omega arith) c.index-images-i.is)) more in
    let exit = c.from_residual-in_err-push in
    let passed = err_from_is_err_and exit.result exit.ensures.1 in
    rw (passed.1, passed.2) (
      refl,
      failed_at keep names c.args.images.now (c.loop-i.i + 1)
          (c.loop-i.all.items ++ c.in_ok-picture.picture ∷ []) (far.taken ++ made.taken.0)
          (first ++ far.lost) old (g.N.Ask.failures c.taken_in.new.names) here
          (made.taken.4 ∙ ap (λ (xs : List Named). first ++ xs) far.fine
          ∙ sym (append_assoc first far.lost old)),
    )
