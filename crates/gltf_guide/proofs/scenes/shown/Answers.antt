use Rattle.std.proofs.Common.{rules, ◌≡◌, ◌∙◌}
use Rattle.std.specs.Prelude.{count_by, map, not}
use Rattle.gltf_scene.specs.Scenes.{scene_handle}
use Rattle.gltf_walk.specs.Reached.{firsts}
use Rattle.gltf_walk.specs.Walks.{children_of, visit}
use Rattle.gltf_guide.proofs.Firsts.{count_by-first}
use Rattle.gltf_guide.proofs.scenes.shown.Goals as goal

pub returns : goal.returns
returns c =
    let s = scene_handle c.args.scene.now in
    let steps = c.in_ok-steps.steps.items in
    let visits = map (λ step. visit step) steps in
    let gives =
    c.each_once.ensures (children_of s.document) s.json.nodes.items visits
    c.in_ok-steps.ensures.order in
    let counted : c.count.result ≡ count_by (λ step. not step.again) steps = search rules in
    record {
      nodes = firsts visits;
      shown = gives.reached;
      once = gives.once;
      counted = counted ∙ count_by-first (λ step. visit step) steps;
    }
