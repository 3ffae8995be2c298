use Rattle.std.proofs.Common.{◌≡◌, ◌∙◌, Some, sym, ap, Option, option_map, length, refl, arith}
use Rattle.std.proofs.lemmas.Option.{slice_get_read}
use Rattle.gltf_json_geometry.specs.declared.accessor.Accessor.{Accessor}
use Rattle.gltf_ranges.specs.Ranges.{range_of}
use Rattle.gltf_ranges.proofs.Keys.{range_at}
use Rattle.gltf_ranges.proofs.Seen.{one_more}
use Rattle.gltf_ranges.proofs.firsts.firsts.Goals as goal

-- one accessor more was seen
pub loop-i-preserved : goal.loop-i-preserved
loop-i-preserved c =
    let here : range_at c.args.accessors.now c.loop-i.i ≡ Some c.range_of.result =
    ap (λ (o : Option Accessor). option_map (range_of c.loop-i.i) o)
    (slice_get_read c.args.accessors.now (length c.args.accessors.now) c.loop-i.i
    c.index-accessors-i.result refl (omega arith) c.index-accessors-i.is)
    ∙ ap (λ r. Some r) (sym c.range_of.ensures) in
    rw c.in_ok-push.ensures.items
    (one_more c.args.accessors.now c.loop-i.i c.loop-i.seen c.first_of.new.seen
    c.loop-i.firsts.items c.range_of.result c.in_ok-first.first here c.loop-i.invariant
    c.in_ok-first.ensures.first c.in_ok-first.ensures.kept)
