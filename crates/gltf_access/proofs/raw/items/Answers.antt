use Rattle.std.proofs.Common.{rules}
use Rattle.std.specs.Prelude.{option_map}
use Rattle.gltf_data.specs.Parts.{part_of}
use Rattle.gltf_access.specs.Raw.{shown}
use Rattle.gltf_access.proofs.Spaced.{fits_at}
use Rattle.gltf_access.proofs.raw.items.Goals as goal

pub returns : goal.returns
returns c =
    fits_at (part_of c.args.view.inner.json.now c.args.offset c.args.count c.args.size)
    c.args.given.now (option_map shown c.cut.result) c.unwrap_or.result (search rules)
    c.cut.ensures
