-- Which images are not touched.
use Rattle.std.specs.Prelude.{Bool, true, false}
use Rattle.gltf_bundle.specs.declared.error.BundleError.{BundleError}
use Rattle.gltf_bundle.specs.declared.error.BundleError.TheVariants.{Image, ImageType}
use Rattle.gltf_bundle.specs.declared.options.BundleOptions.{BundleOptions}
use Rattle.gltf_bundle.specs.declared.options.Keep.{Keep}
use Rattle.gltf_bundle.specs.declared.options.Keep.TheVariants.{Nothing, Missing, Every}

-- each one, or else those that are missing, where this is asked for
abbrev pub keep_of : Bool → Bool → Keep
keep_of true missing = Every
keep_of false true = Missing
keep_of false false = Nothing

-- as the options of a bundle say
abbrev pub kept : BundleOptions → Keep
kept options = keep_of options.keep_images options.keep_missing_images

-- whether an image of which this is said is not touched
abbrev pub spares : Keep → BundleError → Bool
spares Missing (Image i uri e) = true
spares Missing (ImageType i) = true
spares keep e = false
