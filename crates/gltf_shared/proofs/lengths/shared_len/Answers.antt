use Rattle.std.proofs.Common.{◌≡◌, ◌<◌, ◌^◌, ◌+◌, ◌∷◌, [], List, ap, sym, ◌∙◌, drop, map, get_or, arith, rules}
use Rattle.std.proofs.lemmas.List.{at_drop_more, at_drop_all}
use Rattle.gltf_buffers.specs.Buffers.{source_of}
use Rattle.gltf_json_geometry.specs.declared.buffer.Buffer.{Buffer}
use Rattle.gltf_shared.specs.Lengths.{capped, has, shared_len}
use Rattle.gltf_shared.specs.Shown.{bytes_of_each}
use Rattle.gltf_shared.proofs.Counted.{added}
use Rattle.gltf_shared.proofs.lengths.shared_len.Goals as goal

pub loop-i-preserved : goal.loop-i-preserved
loop-i-preserved c =
    let l = c.loop-i in
    let bs = c.args.buffers.now in
    let b = c.index-buffers-i.result in
    let all = bytes_of_each c.args.all.now in
    let F = λ (left : List Buffer).
    capped (l.len + shared_len (has l.seen) l.i (map source_of left) all) in
    let here : get_or bs l.i b ≡ b = search rules in
    let next : F (drop l.i bs) ≡ F (b ∷ drop (l.i + 1) bs) =
    at_drop_more F bs l.i b (omega arith) ∙ ap (λ (x : Buffer). F (x ∷ drop (l.i + 1) bs)) here in
    let sum : c.saturating_add-len.result ≡ capped (l.len + c.in_ok-own_len.field-0) = search rules in
    let fits : c.saturating_add-len.result < 2 ^ 64 = omega (arith, sum) in (
      fits,
      ap (λ n. capped (n + shared_len (has c.own_len.new.seen) (l.i + 1)
          (map source_of (drop (l.i + 1) bs)) all)) sum
          ∙ added (has l.seen) (has c.own_len.new.seen) l.i l.len c.in_ok-own_len.field-0
          (source_of b) (map source_of (drop (l.i + 1) bs)) all c.in_ok-own_len.ensures.added
          c.in_ok-own_len.ensures.own
          ∙ sym next ∙ l.invariant.1,
    )

pub returns : goal.returns
returns c =
    let l = c.loop-i in
    let bs = c.args.buffers.now in
    let all = bytes_of_each c.args.all.now in
    let F = λ (left : List Buffer).
    capped (l.len + shared_len (has l.seen) l.i (map source_of left) all) in
    let end : F (drop l.i bs) ≡ F [] = at_drop_all F bs l.i (omega arith) in
    let fits : l.len ≡ capped (l.len + 0) = omega (arith, l.invariant.0) in
    fits ∙ sym end ∙ l.invariant.1
