use Rattle.std.proofs.Common.{◌-◌, ap, ◌∙◌}
use Rattle.gltf_c_open.specs.Names.{parts_of}
use Rattle.gltf_c_open.proofs.Parts.{all_but_last}
use Rattle.gltf_c_open.proofs.names.parts_in.Goals as goal

pub returns : goal.returns
returns c =
    all_but_last (λ k. k.now) c.in_ok-parts.parts.items (parts_of c.args.block.now) _ _
    c.in_ok-parts.ensures.parts
    (c.saturating_sub-count.ensures ∙ ap (λ n. n - 1) (c.len.ensures ∙ c.in_ok-parts.ensures.count))
    c.truncate.ensures.items
