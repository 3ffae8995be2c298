use Rattle.gltf_lenient.proofs.WithBuffers.{nowhere_exact}
use Rattle.gltf_lenient.proofs.imports.import_slice_with.Goals as goal

pub returns-clause-exact : goal.returns-clause-exact
returns-clause-exact c =
    nowhere_exact c.args.options.now c.args.bytes.now _ _ c.import_bytes.result
    c.import_bytes.ensures.refused (c.import_bytes.ensures.exact tt)
