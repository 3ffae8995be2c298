use Rattle.std.proofs.Common.{ap, sym, ◌∙◌, arith, add-one, take}
use Rattle.serde_json.specs.View.{view}
use Rattle.gltf_mend.proofs.Lists.{first_found, first_of, none_more}
use Rattle.gltf_mend.proofs.textures.first_source.Goals as goal

pub returns-in-Some : goal.returns-in-Some
returns-in-Some c =
    sym (first_found (view c.args.texture.now) c.args.names.now c.loop-name.name-index
    c.in-Some.source _ (omega arith) c.loop-name.invariant (sym c.source_in.ensures ∙ c.in-Some.is))

pub loop-name-preserved : goal.loop-name-preserved
loop-name-preserved c =
    ap (λ n. first_of (take n c.args.names.now) (view c.args.texture.now))
    (add-one c.loop-name.name-index)
    ∙ none_more (view c.args.texture.now) c.args.names.now c.loop-name.name-index _ (omega arith)
    c.loop-name.invariant (sym c.source_in.ensures ∙ c.in_default.is)
