use Rattle.std.proofs.Common.{[], refl, subst}
use Rattle.std.proofs.lemmas.Result.{err_from_is_err_and}
use Rattle.serde_json.specs.Data.{Items}
use Rattle.serde_json.specs.View.{view}
use Rattle.gltf_buffers.specs.Shown.{bytes_of_each}
use Rattle.gltf_split.specs.Images.{AreParts, RefusesImages}
use Rattle.gltf_split.proofs.Made.{none_of_all, parts_all}
use Rattle.gltf_split.proofs.images.image_parts.Goals as goal

pub returns-in-Every-clause-parts : goal.returns-in-Every-clause-parts
returns-in-Every-clause-parts g c = (
  [],
  rw c.new.ensures.items
      (none_of_all c.args.keep (g.N.Ask.names c.args.names.now) c.args.stem.now
      (bytes_of_each c.args.buffers.now) (view c.args.document.now) c.in-Every.is),
  refl,
)

pub returns-in_ok-parts-in_default-clause-parts : goal.returns-in_ok-parts-in_default-clause-parts
returns-in_ok-parts-in_default-clause-parts g c =
    let names = g.N.Ask.names c.args.names.now in
    let stem = c.args.stem.now in
    let buffers = bytes_of_each c.args.buffers.now in
    let document = view c.args.document.now in
    let made = c.in_ok-parts-in_default.ensures.parts in
    let ps = c.in_ok-parts-in_default.parts.items in (
      made.0,
      parts_all c.args.keep names stem buffers document ps made.0 c.in_default.not-Every
          (subst (λ (ds : Items). AreParts c.args.keep names stem buffers document 0 ds ps made.0)
          c.images_of-images.ensures made.1),
      made.2,
    )

pub returns-in_err-parts-in_default-clause-refused :
    goal.returns-in_err-parts-in_default-clause-refused
returns-in_err-parts-in_default-clause-refused g c =
    let e = c.in_err-parts-in_default.field-0.0 in
    let exit = c.from_residual in
    let passed = err_from_is_err_and exit.result exit.ensures.1 in
    rw (passed.1, passed.2)
    (subst (λ (ds : Items).
    RefusesImages c.args.keep (g.N.Ask.names c.args.names.now) (bytes_of_each c.args.buffers.now)
    (view c.args.document.now) ds (g.N.Ask.failures c.args.names.now)
    (g.N.Ask.failures c.all_parts.new.names) e)
    c.images_of-images.ensures c.in_err-parts-in_default.ensures.refused)
