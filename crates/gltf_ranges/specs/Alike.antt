-- Accessors whose items are read out of the same bytes in the same way (glTF 2.0, sections 3.6.2
-- and 5.1).
use Rattle.std.specs.Prelude.{◌≡◌, ◌⊎◌, ℕ, ◌<◌, List, length, Some, None, slice_get}
use Rattle.std.specs.Prelude.{unwrap_or}
use Rattle.gltf_json_geometry.specs.declared.accessor.Accessor.{Accessor}

-- both have as many items of the same type from the same place of the same view on, and none that
-- is replaced
pub record AreAlike (a b : Accessor) : Type 0 where
  pub view : ℕ
  pub in_view : a.buffer_view ≡ Some view
  pub in_that_view : b.buffer_view ≡ Some view
  pub offset : unwrap_or a.byte_offset 0 ≡ unwrap_or b.byte_offset 0
  pub count : a.count ≡ b.count
  pub component : a.component_type ≡ b.component_type
  pub shape : a.type_ ≡ b.type_
  pub whole : a.sparse ≡ None
  pub that_whole : b.sparse ≡ None

-- the accessors at two indices are alike
pub record AreAlikeAt (accessors : List Accessor) (i j : ℕ) : Type 0 where
  pub a : Accessor
  pub b : Accessor
  pub first : slice_get accessors i ≡ Some a
  pub second : slice_get accessors j ≡ Some b
  pub alike : AreAlike a b

-- one accessor, or two that are alike
abbrev pub ReadTheSame : List Accessor → ℕ → ℕ → Type 0
ReadTheSame accessors i j = (i ≡ j) ⊎ AreAlikeAt accessors i j

-- accessor j is the first that reads what accessor i does
pub record IsFirst (accessors : List Accessor) (i j : ℕ) : Type 0 where
  pub same : ReadTheSame accessors i j
  pub before : (k : ℕ) → k < j → ReadTheSame accessors i k → ⊥

-- for each accessor the index of the first that reads the same
pub record AreFirsts (accessors : List Accessor) (firsts : List ℕ) : Type 0 where
  pub len : length firsts ≡ length accessors
  pub each : (i j : ℕ) → slice_get firsts i ≡ Some j → IsFirst accessors i j
