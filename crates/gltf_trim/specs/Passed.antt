-- How far the views that go pass buffers (glTF 2.0, sections 3.6.1, 5.10 and 5.11).
use Rattle.std.specs.Prelude.{ℕ, ◌≡◌, ◌≤◌, ◌<◌, ◌⊎◌, List, [], Bool, true, false, get_or, codes}
use Rattle.serde_json.specs.Data.{Data, Items}
use Rattle.gltf_edit.specs.Bundled.{size_or_zero}
use Rattle.gltf_trim.specs.Lengths.{is_between, is_in, view_end, may_go, all_may_go}

-- a view has the byte at place p of its buffer
abbrev pub covers : Data → ℕ → Bool
covers d p = is_between (size_or_zero (codes "byteOffset") d) (view_end d) p

-- where these views go, so may all that stands in each buffer from its end up to its place
abbrev pub MayGoUpTo : List ℕ → List (List ℕ) → Items → List ℕ → Type 0
MayGoUpTo ends buffers gone places =
    (b p : ℕ) → get_or ends b 0 ≤ p → p < get_or places b 0
    → may_go gone b (get_or buffers b []) p ≡ true

-- what stands in each buffer between its place of before and that of after is in this view, or zero
abbrev pub MayGoBy : Data → List (List ℕ) → List ℕ → List ℕ → Type 0
MayGoBy d buffers before after =
    (b p : ℕ) → get_or before b 0 ≤ p → p < get_or after b 0
    → (is_in b p d ≡ true) ⊎ (get_or (get_or buffers b []) p 0 ≡ 0)

-- behind these places there are only zeros in each buffer whose mark is gone
abbrev pub AreBlank : List Bool → List (List ℕ) → List ℕ → List Bool → Type 0
AreBlank marks buffers places left =
    (b : ℕ) → get_or marks b false ≡ true → get_or left b false ≡ false
    → (p : ℕ) → get_or places b 0 ≤ p → get_or (get_or buffers b []) p 0 ≡ 0

-- where these views go, so may all behind the end of each buffer whose mark is gone
abbrev pub ArePassed : List Bool → List ℕ → List (List ℕ) → Items → List Bool → Type 0
ArePassed marks ends buffers gone left =
    (b : ℕ) → get_or marks b false ≡ true → get_or left b false ≡ false
    → all_may_go gone b (get_or buffers b []) (get_or ends b 0) ≡ true
