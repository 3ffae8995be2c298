-- Where there is nothing to mend.
use Rattle.std.specs.Prelude.{◌≡◌, ℕ, List, [], false, Option}
use Rattle.serde_json.specs.Data.{Data}
use Rattle.gltf_json.specs.Reading.{Reads}
use Rattle.gltf.specs.Import.{AreParts}
use Rattle.gltf_mend.specs.Mended.{mended}
use Rattle.gltf_mend.specs.declared.mends.Mends.{Mends}

-- the value of the text in these bytes is mended to itself, where they have one
abbrev pub HasNothingToMend : Mends → List ℕ → Type 0
HasNothingToMend mends bytes =
    (text : List ℕ) (blob : Option (List ℕ)) (d : Data) → AreParts bytes text blob → Reads text d
    → mended mends d ≡ d

-- so it is whatever the bytes are
pub record MendsNothing (mends : Mends) : Type 0 where
  pub stays : (bytes : List ℕ) → HasNothingToMend mends bytes

-- neither channels nor attributes are to be left out, and no extension says which image a texture
-- has
pub record AsksForNothing (mends : Mends) : Type 0 where
  pub channels : mends.skip_channels_without_node ≡ false
  pub attributes : mends.skip_unknown_attributes ≡ false
  pub textures : mends.texture_sources.now ≡ []

abbrev pub WhatAsksForNothingMendsNothing : Type 0
WhatAsksForNothingMendsNothing = (mends : Mends) → AsksForNothing mends → MendsNothing mends
