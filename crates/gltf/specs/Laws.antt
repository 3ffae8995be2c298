-- Laws over the definitions.
use Rattle.std.specs.Prelude.{◌≡◌, ℕ, List, Option}
use Rattle.gltf.specs.Import.{AreParts}

-- the bytes of a file have one text, and one blob at most
abbrev pub OneTextAndBlob : Type 0
OneTextAndBlob =
    (bytes text other : List ℕ) (blob rest : Option (List ℕ))
    → AreParts bytes text blob → AreParts bytes other rest → (other ≡ text) × (rest ≡ blob)
