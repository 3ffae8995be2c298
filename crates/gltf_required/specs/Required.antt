-- What is left of a document where some of the extensions that it requires pass (glTF 2.0, section
-- 3.12, "Specifying Extensions"), and of which value its records are read.
use Rattle.std.specs.Prelude.{◌≡◌, [], Option, Some, None}
use Rattle.serde_json.specs.Data.{Data}
use Rattle.gltf_glb.specs.declared.error.Error.{Error}
use Rattle.gltf_json.specs.declared.root.Root.{Root}
use Rattle.gltf.specs.Errors.{TellsRules}
use Rattle.gltf_options.specs.Besides.{IsBesides, listed, required_of}
use Rattle.gltf_options.specs.Broken.{RefusesBesides}
use Rattle.gltf_mend.specs.Mended.{mended}
use Rattle.gltf_mend.specs.declared.mends.Mends.{Mends}
use Rattle.gltf_lenient.specs.Import.{also_of}
use Rattle.gltf_required.specs.declared.required.Required.{Required}
use Rattle.gltf_required.specs.declared.required.Required.TheVariants.{Supported, Also, All}
use Rattle.gltf_required.specs.declared.required.Required.TheVariants.{Mended, AllMended}

-- ---- records

-- what is mended of the value of a document, where something is
abbrev pub mends_of : Required → Option Mends
mends_of Supported = None
mends_of (Also options) = None
mends_of All = None
mends_of (Mended options) = Some options.mends
mends_of (AllMended mends) = Some mends

abbrev pub mended_by : Option Mends → Data → Data
mended_by None d = d
mended_by (Some mends) d = mended mends d

-- the value whose records are read
abbrev pub as_read : Required → Data → Data
as_read required d = mended_by (mends_of required) d

-- two read the records of the same value
abbrev pub ReadAlike : Required → Required → Type 0
ReadAlike required other = (d : Data) → as_read required d ≡ as_read other d

-- the value is read as it stands
abbrev pub ReadsAsItStands : Required → Type 0
ReadsAsItStands required = mends_of required ≡ None

-- ---- rules

-- s is r without any name in `extensionsRequired`: every other member is that of r
pub record IsBare (r s : Root) : Type 0 where
  pub names : required_of s ≡ []
  pub others : s ≡ record r { extensions_required = s.extensions_required }

-- s is r without the required names that pass
abbrev pub IsLeft : Required → Root → Root → Type 0
IsLeft Supported r s = s ≡ r
IsLeft (Also options) r s = IsBesides (listed options) r s
IsLeft All r s = IsBare r s
IsLeft (Mended options) r s = IsBesides (also_of options) r s
IsLeft (AllMended mends) r s = IsBare r s

-- the error has all rules that are broken without any name in `extensionsRequired`, which are some
abbrev pub TellsBare : Root → Error → Type 0
TellsBare r e = (left : Root) × IsBare r left × TellsRules left e

-- the error has all rules that are broken without the required names that pass, which are some, at
-- their places in the file
abbrev pub TellsAs : Required → Root → Error → Type 0
TellsAs Supported r e = TellsRules r e
TellsAs (Also options) r e = RefusesBesides (listed options) r e
TellsAs All r e = TellsBare r e
TellsAs (Mended options) r e = RefusesBesides (also_of options) r e
TellsAs (AllMended mends) r e = TellsBare r e
