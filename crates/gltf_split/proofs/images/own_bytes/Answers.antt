use Rattle.std.proofs.Common.{sym, refl, ap, ◌∙◌}
use Rattle.std.proofs.lemmas.Result.{err_from_is_err_and}
use Rattle.std.specs.Prelude.{option_copied}
use Rattle.serde_json.specs.View.{view}
use Rattle.gltf_buffers.specs.Shown.{bytes_of_each}
use Rattle.gltf_split.proofs.Own.{of_view, of_uri}
use Rattle.gltf_split.proofs.Refused.{view_refused, uri_refused}
use Rattle.gltf_split.proofs.images.own_bytes.Goals as goal

pub returns-in-Some-clause-own : goal.returns-in-Some-clause-own
returns-in-Some-clause-own g c =
    of_view (g.N.Ask.names c.args.names.now) (bytes_of_each c.args.buffers.now)
    (view c.args.document.now) (view c.args.image.now) _ c.in-Some.index
    (sym c.size_at.ensures ∙ c.in-Some.is) c.in_ok-viewed.ensures.viewed

pub returns-in_ok-image_bytes-in-Some-text_at-clause-own :
    goal.returns-in_ok-image_bytes-in-Some-text_at-clause-own
returns-in_ok-image_bytes-in-Some-text_at-clause-own g c =
    of_uri (g.N.Ask.names c.args.names.now) (bytes_of_each c.args.buffers.now)
    (view c.args.document.now) (view c.args.image.now) _ c.in-Some-text_at.uri.now
    (sym c.size_at.ensures ∙ c.in_default.is)
    (sym c.text_at.ensures ∙ ap option_copied c.in-Some-text_at.is)
    c.in_ok-image_bytes-in-Some-text_at.ensures.ok

pub returns-in_err-viewed-clause-refused : goal.returns-in_err-viewed-clause-refused
returns-in_err-viewed-clause-refused g c =
    let names = g.N.Ask.names c.args.names.now in
    let fails = g.N.Ask.failures c.args.names.now in
    let exit = c.from_residual in
    let passed = err_from_is_err_and exit.result exit.ensures.1 in
    rw (passed.1, passed.2)
    (view_refused names (bytes_of_each c.args.buffers.now) (view c.args.document.now) fails fails
    (view c.args.image.now) c.in-Some.index c.args.index c.in_err-viewed.field-0.0 refl
    (sym c.size_at.ensures ∙ c.in-Some.is) c.in_err-viewed.ensures.refused)

pub returns-in_err-image_bytes-in-Some-text_at-clause-refused :
    goal.returns-in_err-image_bytes-in-Some-text_at-clause-refused
returns-in_err-image_bytes-in-Some-text_at-clause-refused g c =
    let names = g.N.Ask.names c.args.names.now in
    let old = g.N.Ask.failures c.args.names.now in
    let new = g.N.Ask.failures c.image_bytes.new.names in
    let e = c.in_err-image_bytes-in-Some-text_at.field-0.0 in
    let exit = c.from_residual-in_err-image_bytes-in-Some-text_at in
    let passed = err_from_is_err_and exit.result exit.ensures.1 in
    rw (passed.1, passed.2)
    (uri_refused names (bytes_of_each c.args.buffers.now) (view c.args.document.now) old new
    (view c.args.image.now) c.in-Some-text_at.uri.now c.args.index e
    (sym c.size_at.ensures ∙ c.in_default.is)
    (sym c.text_at.ensures ∙ ap option_copied c.in-Some-text_at.is)
    c.in_err-image_bytes-in-Some-text_at.ensures.refused)
