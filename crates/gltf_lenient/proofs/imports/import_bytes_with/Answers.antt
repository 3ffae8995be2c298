use Rattle.std.specs.Cow.{cow_slice_items}
use Rattle.gltf_lenient.proofs.WithBuffers.{nowhere_exact}
use Rattle.gltf_lenient.proofs.imports.import_bytes_with.Goals as goal

pub returns-clause-exact : goal.returns-clause-exact
returns-clause-exact c =
    nowhere_exact c.args.options.now (cow_slice_items c.args.bytes) _ _ c.import_bytes.result
    c.import_bytes.ensures.refused (c.import_bytes.ensures.exact tt)
