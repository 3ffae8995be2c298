-- What is refused under the options of an example.
use Rattle.std.proofs.Common.{ℕ, List}
use Rattle.std.specs.Prelude.{◌≢◌, Result, Ok, Err, IfErr}
use Rattle.gltf_buffers.specs.Names.{Nowhere}
use Rattle.gltf_glb.specs.declared.error.Error.{Error}
use Rattle.gltf_glb.specs.declared.error.Error.TheVariants.{Memory}
use Rattle.gltf_options.specs.declared.imports.Imported.{Imported}
use Rattle.gltf_lenient.specs.Import.{IsNotAcceptedMended}
use Rattle.gltf_lenient.specs.declared.options.Options.{Options}
use Rattle.gltf_guide.specs.Imports.{AreLenient, MendsAsNone}

-- what is accepted under none of these is not mended
pub none_mended : (options : Options) (bytes : List ℕ) (result : Result Imported Error)
    → IfErr result (λ e. e ≢ Memory → IsNotAcceptedMended options Nowhere bytes)
    → AreLenient options → IfErr result (λ e. e ≢ Memory → MendsAsNone bytes)
none_mended options bytes (Ok read) h are = tt
none_mended options bytes (Err e) h are = λ other. (options, are, h other)
