use Rattle.gltf_handles.specs.Sizes.{item_size}
use Rattle.gltf_access.specs.Components.{layout_of}
use Rattle.gltf_access.proofs.Sizes.{bare_item, tight_ends}
use Rattle.gltf_access.proofs.Zeroed.{tight_value}
use Rattle.gltf_access.proofs.laws.components_without_padding_are_bytes.Goals as goal

pub returns : goal.returns
returns c a none some = (
  tight_ends (layout_of a) (item_size a) none (bare_item a) some,
  tight_value (layout_of a) (item_size a) none (bare_item a),
)
