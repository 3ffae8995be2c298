-- The bytes of all buffers in one, and where each of them stands (glTF 2.0, section 3.6.1).
use Rattle.std.specs.Prelude.{ℕ, ◌+◌, ◌-◌, ◌%◌, List, [], ◌∷◌, ◌++◌, length, replicate}
use Rattle.gltf_edit.specs.declared.span.Span.{Span}

-- followed by zeros up to a multiple of eight
unfoldable pub filled : List ℕ → List ℕ
filled bytes = bytes ++ replicate ((8 - length bytes % 8) % 8) 0

-- the bytes of each, one after the other, each from a multiple of eight on
unfoldable pub joined : List (List ℕ) → List ℕ
joined [] = []
joined (bytes ∷ more) = filled bytes ++ joined more

abbrev pub span : ℕ → ℕ → Span
span p n = record { place = p; length = n }

-- where each of them stands, the first at p
unfoldable pub spans_from : ℕ → List (List ℕ) → List Span
spans_from p [] = []
spans_from p (bytes ∷ more) =
    span p (length bytes) ∷ spans_from (p + length (filled bytes)) more
