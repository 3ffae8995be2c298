use Rattle.std.proofs.Common.{arith}
use Rattle.gltf_access.proofs.Sizes.{step_small, padded_small}
use Rattle.gltf_access.proofs.layout.padded_size.Goals as goal

pub overflow_add-step : goal.overflow_add-step
overflow_add-step c =
    omega (
      arith,
      step_small c.args.component_size c.args.shape c.layout_of-layout.result
          c.requires c.layout_of-layout.ensures,
    )

pub overflow_mul-result : goal.overflow_mul-result
overflow_mul-result c =
    omega (
      arith,
      padded_small c.args.component_size c.args.shape c.layout_of-layout.result
          c.requires c.layout_of-layout.ensures,
    )
