use Rattle.std.proofs.Common.{◌≡◌, [], drop, arith, sym, subst, ◌∙◌}
use Rattle.std.proofs.lemmas.Grind.{common_steps}
use Rattle.serde_json.specs.View.{items_view}
use Rattle.gltf_edit.specs.Embedded.{with_items}
use Rattle.gltf_fallback.specs.Bare.{bare_of}
use Rattle.gltf_fallback.proofs.One.{go_on, with_none}
use Rattle.gltf_fallback.proofs.bare.bare_of.Goals as goal

pub loop-buffer-preserved : goal.loop-buffer-preserved
loop-buffer-preserved c =
    let vs = c.args.buffers.now in
    let far = c.loop-buffer in
    record {
      seen =
          go_on far.buffer-index c.buffer-item.result vs far.all.items c.add_bare.new.all.items
          (bare_of (items_view vs)) (omega arith) c.buffer-item.is c.in_ok-add_bare.ensures
          far.invariant.seen;
    }

pub returns : goal.returns
returns c =
    let vs = c.args.buffers.now in
    let far = c.loop-buffer in
    let none : drop far.buffer-index vs ≡ [] = grind (arith, common_steps) in
    let whole : with_items (items_view far.all.items) (bare_of (items_view []))
    ≡ bare_of (items_view vs) =
    subst (λ ws. with_items (items_view far.all.items) (bare_of (items_view ws))
    ≡ bare_of (items_view vs)) none far.invariant.seen in
    sym (with_none (items_view far.all.items)) ∙ whole
