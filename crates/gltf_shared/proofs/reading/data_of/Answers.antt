use Rattle.std.proofs.Common.{◌≡◌, ◌∙◌, sym, ap, Some, option_map, option_copied, string_bytes}
use Rattle.gltf_names.specs.Named.{File, Relative}
use Rattle.gltf_buffers.specs.Buffers.{name_at}
use Rattle.gltf_buffers.specs.Meanings.{meaning}
use Rattle.gltf_buffers.specs.Names.{name_of}
use Rattle.gltf_buffers.specs.Shown.{blob_bytes}
use Rattle.gltf_shared.specs.Shown.{answer_of}
use Rattle.gltf_shared.proofs.Data.{leads_by, data_if_ok, data_if_err, data_fits}
use Rattle.gltf_shared.proofs.Noted.{notes_weaker, named_leads}
use Rattle.gltf_shared.proofs.reading.data_of.Goals as goal

pub returns-in-File-clause-ok : goal.returns-in-File-clause-ok
returns-in-File-clause-ok g c =
    let uri = option_map string_bytes c.args.buffer.now.uri in
    let at : uri ≡ Some c.in-Some.uri.now =
    sym c.uri_of.ensures ∙ ap option_copied c.in-Some.is in
    let means = ap (λ u. name_of (meaning u)) c.in-File.is in
    data_if_ok (g.N.AskUpTo.names c.args.names.now) (blob_bytes c.args.blob.now) uri
    (File c.in-File.path.now) c.read.result
    (leads_by uri c.in-Some.uri.now (meaning c.in_ok-payload.field-0) (File c.in-File.path.now) at
    c.in_ok-payload.ensures.meaning means) c.read.ensures.ok

pub returns-in-File-clause-err : goal.returns-in-File-clause-err
returns-in-File-clause-err g c =
    let uri = option_map string_bytes c.args.buffer.now.uri in
    let at : uri ≡ Some c.in-Some.uri.now =
    sym c.uri_of.ensures ∙ ap option_copied c.in-Some.is in
    let means = ap (λ u. name_of (meaning u)) c.in-File.is in
    data_if_err (g.N.AskUpTo.names c.args.names.now) (blob_bytes c.args.blob.now) uri
    (File c.in-File.path.now) c.read.result
    (leads_by uri c.in-Some.uri.now (meaning c.in_ok-payload.field-0) (File c.in-File.path.now) at
    c.in_ok-payload.ensures.meaning means) c.read.ensures.err

pub returns-in-Relative-clause-ok : goal.returns-in-Relative-clause-ok
returns-in-Relative-clause-ok g c =
    let uri = option_map string_bytes c.args.buffer.now.uri in
    let at : uri ≡ Some c.in-Some.uri.now =
    sym c.uri_of.ensures ∙ ap option_copied c.in-Some.is in
    let means = ap (λ u. name_of (meaning u)) c.in-Relative.is
    ∙ ap (λ t. Some (Relative t)) (sym c.as_str.ensures.value) in
    data_if_ok (g.N.AskUpTo.names c.args.names.now) (blob_bytes c.args.blob.now) uri
    (Relative c.as_str.result.now) c.read-in-Relative.result
    (leads_by uri c.in-Some.uri.now (meaning c.in_ok-payload.field-0)
    (Relative c.as_str.result.now) at c.in_ok-payload.ensures.meaning means)
    c.read-in-Relative.ensures.ok

pub returns-in-Relative-clause-err : goal.returns-in-Relative-clause-err
returns-in-Relative-clause-err g c =
    let uri = option_map string_bytes c.args.buffer.now.uri in
    let at : uri ≡ Some c.in-Some.uri.now =
    sym c.uri_of.ensures ∙ ap option_copied c.in-Some.is in
    let means = ap (λ u. name_of (meaning u)) c.in-Relative.is
    ∙ ap (λ t. Some (Relative t)) (sym c.as_str.ensures.value) in
    data_if_err (g.N.AskUpTo.names c.args.names.now) (blob_bytes c.args.blob.now) uri
    (Relative c.as_str.result.now) c.read-in-Relative.result
    (leads_by uri c.in-Some.uri.now (meaning c.in_ok-payload.field-0)
    (Relative c.as_str.result.now) at c.in_ok-payload.ensures.meaning means)
    c.read-in-Relative.ensures.err

pub returns-in-Relative-clause-fits : goal.returns-in-Relative-clause-fits
returns-in-Relative-clause-fits g c =
    let uri = option_map string_bytes c.args.buffer.now.uri in
    let at : uri ≡ Some c.in-Some.uri.now =
    sym c.uri_of.ensures ∙ ap option_copied c.in-Some.is in
    let means = ap (λ u. name_of (meaning u)) c.in-Relative.is
    ∙ ap (λ t. Some (Relative t)) (sym c.as_str.ensures.value) in
    data_fits uri (Relative c.as_str.result.now) c.read-in-Relative.new.self
    (answer_of c.read-in-Relative.result)
    (leads_by uri c.in-Some.uri.now (meaning c.in_ok-payload.field-0)
    (Relative c.as_str.result.now) at c.in_ok-payload.ensures.meaning means)
    c.read-in-Relative.ensures.fits

pub returns-in-File-clause-noted : goal.returns-in-File-clause-noted
returns-in-File-clause-noted g c =
    let uri = option_map string_bytes c.args.buffer.now.uri in
    let at : uri ≡ Some c.in-Some.uri.now =
    sym c.uri_of.ensures ∙ ap option_copied c.in-Some.is in
    let means = ap (λ u. name_of (meaning u)) c.in-File.is in
    let leads = leads_by uri c.in-Some.uri.now (meaning c.in_ok-payload.field-0)
    (File c.in-File.path.now) at c.in_ok-payload.ensures.meaning means in
    notes_weaker (λ name. name ≡ File c.in-File.path.now) (λ name. name_at uri ≡ Some name) c.args.held.now
    c.read.result _ _ (named_leads uri (File c.in-File.path.now) leads) c.read.ensures.noted

pub returns-in-Relative-clause-noted : goal.returns-in-Relative-clause-noted
returns-in-Relative-clause-noted g c =
    let uri = option_map string_bytes c.args.buffer.now.uri in
    let at : uri ≡ Some c.in-Some.uri.now =
    sym c.uri_of.ensures ∙ ap option_copied c.in-Some.is in
    let means = ap (λ u. name_of (meaning u)) c.in-Relative.is
    ∙ ap (λ t. Some (Relative t)) (sym c.as_str.ensures.value) in
    let leads = leads_by uri c.in-Some.uri.now (meaning c.in_ok-payload.field-0)
    (Relative c.as_str.result.now) at c.in_ok-payload.ensures.meaning means in
    notes_weaker (λ name. name ≡ Relative c.as_str.result.now) (λ name. name_at uri ≡ Some name) c.args.held.now
    c.read-in-Relative.result _ _ (named_leads uri (Relative c.as_str.result.now) leads) c.read-in-Relative.ensures.noted
