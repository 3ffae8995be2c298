use Rattle.std.proofs.Common.{◌++◌, ◌∙◌, ap, codes, rules}
use Rattle.gltf_json_record.specs.Place.{place_of}
use Rattle.gltf_json_record.specs.Pointer.{reference_token}
use Rattle.gltf_json_record.proofs.Pointers.{pointer_text-one_more}
use Rattle.gltf_json_record.proofs.path.Path.pointer.Goals as goal

pub loop-step-preserved : goal.loop-step-preserved
loop-step-preserved c =
    let token = reference_token (place_of c.step-item.result) in
    c.in_ok-push_token.ensures
    ∙ ap (λ t. t ++ token)
    (c.in_ok-push_str.ensures.bytes ∙ ap (λ t. t ++ codes "/") c.loop-step.invariant)
    ∙ pointer_text-one_more c.steps-step-items.result.now c.loop-step.step-index _
    (search rules) c.step-item.is
