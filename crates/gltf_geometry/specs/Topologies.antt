-- How many primitives n vertices make up, and at which positions the vertices of primitive i are,
-- by topology type.
use Rattle.std.specs.Prelude.{ℕ, ◌+◌, ◌-◌, ◌*◌, ◌/◌, ◌%◌, ◌==◌, nat_lt, if◌then◌else◌, List, []}
use Rattle.std.specs.Prelude.{◌∷◌, map, length, slice_index}
use Rattle.std.specs.List.{range_with_len}
use Rattle.gltf_geometry.specs.declared.triangle.TriangleTopology as triangles
use Rattle.gltf_geometry.specs.declared.line.LineTopology as lines

abbrev pub triangle_count : triangles.TriangleTopology → ℕ → ℕ
triangle_count triangles.TheVariants.Separate n = n / 3
triangle_count triangles.TheVariants.Strip n = n - 2
triangle_count triangles.TheVariants.Fan n = n - 2

abbrev pub corners : triangles.TriangleTopology → ℕ → ℕ × ℕ × ℕ
corners triangles.TheVariants.Separate i = (3 * i, 3 * i + 1, 3 * i + 2)
corners triangles.TheVariants.Strip i = (i, i + (1 + i % 2), i + (2 - i % 2))
corners triangles.TheVariants.Fan i = (i + 1, i + 2, 0)

abbrev pub triangle : triangles.TriangleTopology → List ℕ → ℕ → List ℕ
triangle t v i = slice_index v (corners t i).0 ∷ slice_index v (corners t i).1
    ∷ slice_index v (corners t i).2 ∷ []

abbrev pub triangles_by : triangles.TriangleTopology → List ℕ → List (List ℕ)
triangles_by t v = map (triangle t v) (range_with_len 0 (triangle_count t (length v)))

abbrev pub line_count : lines.LineTopology → ℕ → ℕ
line_count lines.TheVariants.Separate n = n / 2
line_count lines.TheVariants.Strip n = n - 1
line_count lines.TheVariants.Loop n = if nat_lt n 2 then 0 else n

abbrev pub ends : lines.LineTopology → ℕ → ℕ → ℕ × ℕ
ends lines.TheVariants.Separate n i = (2 * i, 2 * i + 1)
ends lines.TheVariants.Strip n i = (i, i + 1)
ends lines.TheVariants.Loop n i = if i + 1 == n then (i, 0) else (i, i + 1)

abbrev pub line : lines.LineTopology → List ℕ → ℕ → List ℕ
line t v i = slice_index v (ends t (length v) i).0 ∷ slice_index v (ends t (length v) i).1 ∷ []

abbrev pub lines_by : lines.LineTopology → List ℕ → List (List ℕ)
lines_by t v = map (line t v) (range_with_len 0 (line_count t (length v)))
