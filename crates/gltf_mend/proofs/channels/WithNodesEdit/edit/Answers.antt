use Rattle.std.proofs.Common.{◌≡◌, map, take, ap, ◌∙◌, arith}
use Rattle.std.proofs.lemmas.Grind.{common_steps}
use Rattle.serde_json.specs.Data.{array}
use Rattle.serde_json.specs.View.{view, items_of}
use Rattle.serde_json.proofs.Views.{view-Array}
use Rattle.gltf_mend.proofs.Lists.{keeps_more, kept_items, kept_list}
use Rattle.gltf_mend.proofs.channels.WithNodesEdit.edit.Goals as goal

pub loop-channel-preserved : goal.loop-channel-preserved
loop-channel-preserved c =
    keeps_more c.deref-channel-items.result.now c.loop-channel.channel-index c.channel-item.result
    (map view c.loop-channel.kept.items) (map view c.keep.new.kept.items) (omega arith)
    c.channel-item.is c.loop-channel.invariant c.in_ok-keep.ensures

pub returns : goal.returns
returns c =
    let vs = c.deref-channel-items.result.now in
    let same : vs ≡ c.in-Array.channels.items = c.deref-channel-items.ensures.value in
    let all : take c.loop-channel.channel-index vs ≡ vs = grind (arith, common_steps) in
    rw (c.in-Array.is, view-Array c.in-Array.channels, ← same)
    (view-Array c.loop-channel.kept
    ∙ ap (λ ds. array (items_of ds))
    (c.loop-channel.invariant ∙ ap (λ ws. kept_list (map view ws)) all)
    ∙ ap array (kept_items (map view vs)))
