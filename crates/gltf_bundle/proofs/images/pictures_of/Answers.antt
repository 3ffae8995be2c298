use Rattle.std.proofs.Common.{[], refl, sym, subst}
use Rattle.std.proofs.lemmas.List.{append-nil}
use Rattle.std.proofs.lemmas.Result.{err_from_is_err_and}
use Rattle.serde_json.specs.Data.{Items}
use Rattle.serde_json.specs.View.{view}
use Rattle.gltf_bundle.specs.Images.{AllTaken, RefusesImages}
use Rattle.gltf_bundle.proofs.Taken.{none_of_all, taken_all}
use Rattle.gltf_bundle.proofs.images.pictures_of.Goals as goal

pub returns-in-Every-clause-taken : goal.returns-in-Every-clause-taken
returns-in-Every-clause-taken g c = (
  [],
  [],
  rw c.new.ensures.items
      (none_of_all c.args.keep (g.N.Ask.names c.args.names.now) (view c.args.document.now)
      c.in-Every.is),
  sym (append-nil _),
  refl,
)

pub returns-in_ok-pictures-in_default-clause-taken :
    goal.returns-in_ok-pictures-in_default-clause-taken
returns-in_ok-pictures-in_default-clause-taken g c =
    let names = g.N.Ask.names c.args.names.now in
    let made = c.in_ok-pictures-in_default.ensures.taken in
    let ps = c.in_ok-pictures-in_default.pictures.items in (
      made.0,
      made.1,
      taken_all c.args.keep names (view c.args.document.now) ps made.0 made.1
          c.in_default.not-Every
          (subst (λ (ds : Items). AllTaken c.args.keep names ds ps made.0 made.1)
          c.images_of.ensures made.2),
      made.3,
      made.4,
    )

pub returns-in_err-pictures-in_default-clause-refused :
    goal.returns-in_err-pictures-in_default-clause-refused
returns-in_err-pictures-in_default-clause-refused g c =
    let e = c.in_err-pictures-in_default.field-0.0 in
    let exit = c.from_residual in
    let passed = err_from_is_err_and exit.result exit.ensures.1 in
    rw (passed.1, passed.2)
    (subst (λ (ds : Items).
    RefusesImages c.args.keep (g.N.Ask.names c.args.names.now) ds
    (g.N.Ask.failures c.args.names.now) (g.N.Ask.failures c.all_taken.new.names) e)
    c.images_of.ensures c.in_err-pictures-in_default.ensures.refused)
