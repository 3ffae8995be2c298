use Rattle.std.proofs.Common.{◌++◌, ◌∙◌, ap, codes, rules, append_assoc, string_bytes, map, take}
use Rattle.gltf_json_record.specs.Place.{place_of}
use Rattle.gltf_json_record.specs.Pointer.{reference_token, pointer_text}
use Rattle.gltf_messages.proofs.Pointers.{pointer_text-one_more}
use Rattle.gltf_messages.proofs.pointer.push_pointer.Goals as goal

pub loop-step-preserved : goal.loop-step-preserved
loop-step-preserved c =
    let old = string_bytes c.args.text.now in
    let token = reference_token (place_of c.step-item.result) in
    let steps = c.steps-step-items.result.now in
    let before = pointer_text (map place_of (take c.loop-step.step-index steps)) in
    c.in_ok-push_token.ensures
    ∙ ap (λ t. t ++ token)
    (c.in_ok-push_str.ensures.bytes ∙ ap (λ t. t ++ codes "/") c.loop-step.invariant)
    ∙ ap (λ t. t ++ token) (append_assoc old before (codes "/"))
    ∙ append_assoc old (before ++ codes "/") token
    ∙ ap (λ t. old ++ t)
    (
    pointer_text-one_more steps c.loop-step.step-index _ (search rules) c.step-item.is
    )
