use Rattle.std.proofs.Common.{rules}
use Rattle.std.specs.Prelude.{option_map}
use Rattle.gltf_access.specs.Raw.{shown}
use Rattle.gltf_access.proofs.Spaced.{fits_spaced}
use Rattle.gltf_access.proofs.raw.spaced_items.Goals as goal

pub returns : goal.returns
returns c =
    fits_spaced c.args.view.inner.json.now c.args.apart c.args.offset c.args.count c.args.size
    c.args.given.now (option_map shown c.cut.result) c.unwrap_or.result c.requires (search rules)
    c.cut.ensures
