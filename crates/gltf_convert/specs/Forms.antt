-- What a path is written as.
use Rattle.std.specs.Prelude.{◌≡◌, ◌≢◌, ℕ, ◌<◌, List, [], ◌∷◌, ◌++◌, ◌⊎◌, codes, length, get_or}
use Rattle.gltf_convert.specs.declared.words.Form.{Form}
use Rattle.gltf_convert.specs.declared.words.Form.TheVariants.{Container, Text}

-- a path is that of a text in these folders, whose name without its ending is this
pub record IsTextAt (path base stem : List ℕ) : Type 0 where
  pub whole : path ≡ base ++ (stem ++ codes ".gltf")
  pub some : stem ≢ []
  pub no_slash : (i : ℕ) → i < length stem → get_or stem i 0 ≢ 47
  pub ends : (base ≡ []) ⊎ ((front : List ℕ) × (base ≡ front ++ 47 ∷ []))

-- a path is written as this
abbrev pub IsForm : List ℕ → Form → Type 0
IsForm path Container = (front : List ℕ) × (path ≡ front ++ codes ".glb")
IsForm path (Text base stem) = IsTextAt path base.now stem.now

-- it is neither that of a container nor that of a text
abbrev pub HasNoForm : List ℕ → Type 0
HasNoForm path =
    ((front : List ℕ) → path ≢ front ++ codes ".glb")
    × ((base stem : List ℕ) → ¬ IsTextAt path base stem)
