use Rattle.std.proofs.Common.{◌<◌, ◌++◌, ◌∷◌, [], List, length, map, take, sym, ap, ◌∙◌}
use Rattle.std.proofs.Common.{arith}
use Rattle.std.specs.Float.{Float}
use Rattle.std.proofs.lemmas.List.{take_all, take_more, take_more_set, map-append, length-set}
use Rattle.gltf_items.specs.Floats.{float_of}
use Rattle.gltf_items.proofs.item.floats.Goals as goal

pub loop-i-preserved : goal.loop-i-preserved
loop-i-preserved g c =
    let within : c.loop-i.i < length c.args.items = omega arith in
    let room : c.loop-i.i < length c.loop-i.numbers =
    omega (arith, c.loop-i.invariant.same_length) in
    let more = take_more c.args.items c.loop-i.i c.index-items-i.result within in
    record {
      same_length = omega (arith, length-set {A = Float}, c.loop-i.invariant.same_length);
      read =
          take_more_set c.loop-i.numbers c.loop-i.i c.to_f32.result room
          ∙ ap (λ (xs : List Float). xs ++ c.to_f32.result ∷ []) c.loop-i.invariant.read
          ∙ ap (λ (x : Float). map float_of (take c.loop-i.i c.args.items) ++ x ∷ [])
          c.to_f32.ensures
          ∙ sym (ap (map float_of) more ∙ map-append float_of (take c.loop-i.i c.args.items) _);
    }

pub returns : goal.returns
returns g c =
    let all_numbers = take_all c.loop-i.i c.loop-i.numbers
    (omega (arith, c.loop-i.invariant.same_length)) in
    let all_items = take_all c.loop-i.i c.args.items (omega arith) in
    sym all_numbers ∙ c.loop-i.invariant.read ∙ ap (map float_of) all_items
