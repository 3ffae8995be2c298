use Rattle.std.proofs.Common.{◌≡◌, sym, ap, ◌∙◌}
use Rattle.gltf_names.specs.Named.{File, Relative}
use Rattle.gltf_buffers.specs.Uri.{uri_of}
use Rattle.gltf_buffers.specs.Uri as uri
use Rattle.gltf_buffers.specs.Meanings.{meaning}
use Rattle.gltf_buffers.specs.Names.{name_of}
use Rattle.gltf_buffers.proofs.Asked.{name_meant}
use Rattle.gltf_buffers.proofs.reference.bytes_of_uri.Goals as goal

pub returns-in-File-clause-ok : goal.returns-in-File-clause-ok
returns-in-File-clause-ok g c =
    let means : uri.File c.in-File.path.now ≡ uri_of c.args.uri.now =
    sym (ap meaning c.in-File.is) ∙ c.in_ok-payload.ensures.meaning in
    name_meant (g.N.Ask.names c.args.names.now) (uri_of c.args.uri.now) (File c.in-File.path.now)
    c.ask.result (ap name_of (sym means)) c.ask.ensures.gives

pub returns-in-Relative-clause-ok : goal.returns-in-Relative-clause-ok
returns-in-Relative-clause-ok g c =
    let means : uri.Relative c.as_str.result.now ≡ uri_of c.args.uri.now =
    ap uri.Relative c.as_str.ensures.value ∙ sym (ap meaning c.in-Relative.is)
    ∙ c.in_ok-payload.ensures.meaning in
    name_meant (g.N.Ask.names c.args.names.now) (uri_of c.args.uri.now)
    (Relative c.as_str.result.now) c.ask-in-Relative.result (ap name_of (sym means))
    c.ask-in-Relative.ensures.gives
