use Rattle.std.proofs.Common.{◌≡◌, false, rules, ◌∙◌}
use Rattle.gltf_mend.specs.Attributes.{is_own}
use Rattle.gltf_mend.proofs.Semantics.{by_name}
use Rattle.gltf_mend.proofs.attributes.is_attribute.Goals as goal

pub returns-in_ok-of_name : goal.returns-in_ok-of_name
returns-in_ok-of_name c =
    let other : is_own c.args.name.now ≡ false = search rules in
    c.is_some.ensures
    ∙ by_name c.args.name.now c.in_ok-of_name.field-0 c.in_ok-of_name.ensures.known
    c.in_ok-of_name.ensures.unknown other
