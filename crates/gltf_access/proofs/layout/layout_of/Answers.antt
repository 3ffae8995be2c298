use Rattle.std.proofs.Common.{arith}
use Rattle.gltf_access.proofs.Sizes.{product_small}
use Rattle.gltf_access.proofs.layout.layout_of.Goals as goal

pub overflow_mul-column : goal.overflow_mul-column
overflow_mul-column c =
    omega (
      arith,
      product_small c.rows.result c.args.component_size c.rows.ensures.small
          c.requires,
    )
