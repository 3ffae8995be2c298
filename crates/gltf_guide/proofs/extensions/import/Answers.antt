use Rattle.std.proofs.Common.{rules}
use Rattle.gltf_guide.proofs.Mended.{none_mended}
use Rattle.gltf_guide.proofs.extensions.import.Goals as goal

pub returns-clause-exact : goal.returns-clause-exact
returns-clause-exact c =
    none_mended _ c.args.bytes.now c.import_slice_with.result c.import_slice_with.ensures.exact
    (search rules)
