use Rattle.std.proofs.Common.{List, [], ◌++◌, ◌∙◌, ap}
use Rattle.gltf_json_record.specs.Place.{Place}
use Rattle.gltf_uses.specs.Documents.{root_uses}
use Rattle.gltf_uses.specs.References.{Found, held, paths_after, references_of}
use Rattle.gltf_uses.proofs.Folds.{after_uses-each}
use Rattle.gltf_uses.proofs.Paths.{named, paths_each}
use Rattle.gltf_uses.proofs.uses.references.Goals as goal

pub returns : goal.returns
unfolding references_of
returns c =
    let start : Found =
    record { kind = c.args.kind; index = c.args.index; paths = c.new.result.items } in
    ap (λ (f : Found). f.paths)
    (c.found.view_is ∙ c.in_ok-visit.ensures
    ∙ after_uses-each paths_after start [] (root_uses c.args.root.now))
    ∙ paths_each start (held c.args.root.now)
    ∙ ap (λ (paths : List (List Place)). paths ++ named start (held c.args.root.now))
    c.new.ensures.items
