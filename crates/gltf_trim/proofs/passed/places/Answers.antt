use Rattle.std.proofs.Common.{◌+◌, drop, ap, sym, ◌∙◌, ◌∷◌, arith}
use Rattle.std.proofs.lemmas.List.{drop_more}
use Rattle.serde_json.specs.declared.value.Value.{Value}
use Rattle.gltf_trim.specs.Tails.{bytes_of}
use Rattle.gltf_trim.proofs.Behind.{one_more}
use Rattle.gltf_trim.proofs.passed.places.Goals as goal

pub loop-one-preserved : goal.loop-one-preserved
loop-one-preserved c =
    let far = c.loop-one in
    let vs = c.args.views.now in
    let v = c.one-item.result in
    one_more c.args.ends.now far.places.items c.pass.new.places.items (bytes_of c.args.bytes.now) vs
    far.one-index v
    (drop_more vs far.one-index v (omega arith)
    ∙ ap (λ (w : Value). w ∷ drop (far.one-index + 1) vs) (sym c.one-item.is))
    far.invariant c.pass.ensures
