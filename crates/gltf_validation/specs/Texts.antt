-- The texts of errors.
use Rattle.std.specs.Prelude.{ℕ, List, codes}
use Rattle.gltf_validation.specs.declared.error.Error.{Error}
use Rattle.gltf_validation.specs.declared.error.Error.TheVariants.{IndexOutOfBounds, Invalid}
use Rattle.gltf_validation.specs.declared.error.Error.TheVariants.{Missing, Oversize, Unsupported}

abbrev pub error_text : Error → List ℕ
error_text IndexOutOfBounds = codes "Index out of bounds"
error_text Invalid = codes "Invalid value"
error_text Missing = codes "Missing data"
error_text Oversize = codes "Size exceeds system limits"
error_text Unsupported = codes "Unsupported extension"
