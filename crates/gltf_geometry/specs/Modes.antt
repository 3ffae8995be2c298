-- The topology types of glTF 2.0, section 3.7.2.1, by modes, over the list v of the vertices in
-- order. p_i is primitive i, and v_k the vertex at position k. A primitive whose vertices are not
-- all there is none.
use Rattle.std.specs.Prelude.{ℕ, ◌+◌, ◌-◌, ◌*◌, ◌/◌, ◌%◌, List, [], ◌∷◌, ◌++◌, map}
use Rattle.std.specs.Prelude.{nat_lt, if◌then◌else◌, length, slice_index, Option, Some, None}
use Rattle.std.specs.List.{range_with_len}
use Rattle.gltf_json_geometry.specs.declared.mesh.Mode.{Mode}
use Rattle.gltf_json_geometry.specs.declared.mesh.Mode.TheVariants.{Points, Lines, LineLoop}
use Rattle.gltf_json_geometry.specs.declared.mesh.Mode.TheVariants.{LineStrip, Triangles}
use Rattle.gltf_json_geometry.specs.declared.mesh.Mode.TheVariants.{TriangleStrip, TriangleFan}

-- p_0, p_1 and so on, n of them
abbrev pub each : ℕ → (ℕ → List ℕ) → List (List ℕ)
each n p = map p (range_with_len 0 n)

-- Triangles: each consecutive set of three vertices, p_i = {v_3i, v_3i+1, v_3i+2}
abbrev pub separate_triangles : List ℕ → List (List ℕ)
separate_triangles v = each (length v / 3) (λ i. slice_index v (3 * i)
    ∷ slice_index v (3 * i + 1) ∷ slice_index v (3 * i + 2) ∷ [])

-- Triangle strips: each vertex and the two that follow it, p_i = {v_i, v_i+(1+i%2), v_i+(2-i%2)}
abbrev pub triangle_strip : List ℕ → List (List ℕ)
triangle_strip v = each (length v - 2) (λ i. slice_index v i
    ∷ slice_index v (i + (1 + i % 2)) ∷ slice_index v (i + (2 - i % 2)) ∷ [])

-- Triangle fans: around a shared common vertex, p_i = {v_i+1, v_i+2, v_0}
abbrev pub triangle_fan : List ℕ → List (List ℕ)
triangle_fan v = each (length v - 2) (λ i. slice_index v (i + 1)
    ∷ slice_index v (i + 2) ∷ slice_index v 0 ∷ [])

-- Lines: each consecutive pair of vertices, p_i = {v_2i, v_2i+1}
abbrev pub separate_lines : List ℕ → List (List ℕ)
separate_lines v = each (length v / 2) (λ i. slice_index v (2 * i)
    ∷ slice_index v (2 * i + 1) ∷ [])

-- Line strips: each vertex and the one that follows it, p_i = {v_i, v_i+1}
abbrev pub line_strip : List ℕ → List (List ℕ)
line_strip v = each (length v - 1) (λ i. slice_index v i ∷ slice_index v (i + 1) ∷ [])

-- the segment from the final vertex to the first one, where there are two vertices at least
abbrev pub closing : List ℕ → List (List ℕ)
closing v = if nat_lt (length v) 2 then [] else
    (slice_index v (length v - 1) ∷ slice_index v 0 ∷ []) ∷ []

-- Line loops: a line strip, and a final segment from the final vertex to the first one
abbrev pub line_loop : List ℕ → List (List ℕ)
line_loop v = line_strip v ++ closing v

-- the triangles of a mode of triangles
abbrev pub triangles_of : Mode → List ℕ → Option (List (List ℕ))
triangles_of Points v = None
triangles_of Lines v = None
triangles_of LineLoop v = None
triangles_of LineStrip v = None
triangles_of Triangles v = Some (separate_triangles v)
triangles_of TriangleStrip v = Some (triangle_strip v)
triangles_of TriangleFan v = Some (triangle_fan v)

-- the lines of a mode of lines
abbrev pub lines_of : Mode → List ℕ → Option (List (List ℕ))
lines_of Points v = None
lines_of Lines v = Some (separate_lines v)
lines_of LineLoop v = Some (line_loop v)
lines_of LineStrip v = Some (line_strip v)
lines_of Triangles v = None
lines_of TriangleStrip v = None
lines_of TriangleFan v = None

-- Points: each vertex is a point, p_i = {v_i}
abbrev pub points_of : Mode → List ℕ → Option (List ℕ)
points_of Points v = Some v
points_of Lines v = None
points_of LineLoop v = None
points_of LineStrip v = None
points_of Triangles v = None
points_of TriangleStrip v = None
points_of TriangleFan v = None
