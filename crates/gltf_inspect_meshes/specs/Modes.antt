-- How many vertices or indices a mode takes (glTF 2.0, section 3.7.2.1).
use Rattle.std.specs.Prelude.{ℕ, ◌%◌, ◌==◌, ◌&&◌, Bool, true, nat_le, List, Option, Some, None}
use Rattle.gltf_json_record.specs.declared.validation.Checked.{Checked}
use Rattle.gltf_json_record.specs.declared.validation.Checked.TheVariants.{Valid, Invalid}
use Rattle.gltf_json_geometry.specs.declared.accessor.Accessor.{Accessor}
use Rattle.gltf_json_geometry.specs.declared.mesh.Mode.{Mode}
use Rattle.gltf_json_geometry.specs.declared.mesh.Mode.TheVariants.{Points, Lines, LineLoop}
use Rattle.gltf_json_geometry.specs.declared.mesh.Mode.TheVariants.{LineStrip}
use Rattle.gltf_json_geometry.specs.declared.mesh.Mode.TheVariants.{Triangles, TriangleStrip}
use Rattle.gltf_json_geometry.specs.declared.mesh.Mode.TheVariants.{TriangleFan}
use Rattle.gltf_json_geometry.specs.declared.semantic.Semantic.{Semantic}
use Rattle.gltf_findings.specs.declared.code.Code.TheVariants.{IncompatibleMode}
use Rattle.gltf_findings.specs.Checks.{Checks, Condition}
use Rattle.gltf_inspect_meshes.specs.Meanings.{first_of, count_at, count_of_index}

-- "the number of vertices or indices [..] non-zero" for points, "divisible by 2 and non-zero" for
-- lines, "2 or greater" for loops and strips of lines, "divisible by 3 and non-zero" for triangles,
-- "3 or greater" for strips and fans
abbrev pub fits_mode : Checked Mode → ℕ → Bool
fits_mode Invalid n = true
fits_mode (Valid Points) n = nat_le 1 n
fits_mode (Valid Lines) n = nat_le 2 n && n % 2 == 0
fits_mode (Valid LineLoop) n = nat_le 2 n
fits_mode (Valid LineStrip) n = nat_le 2 n
fits_mode (Valid Triangles) n = nat_le 3 n && n % 3 == 0
fits_mode (Valid TriangleStrip) n = nat_le 3 n
fits_mode (Valid TriangleFan) n = nat_le 3 n

-- how many are drawn: the indices, and where there are none the positions
abbrev pub drawn : List Accessor → Option ℕ → List (Semantic × ℕ) → Option ℕ
drawn accessors (Some i) entries = count_at accessors i
drawn accessors None entries = count_of_index accessors (first_of 1 entries)

abbrev pub mode_checks : Checked Mode → ℕ → Checks
mode_checks mode n = Condition (fits_mode mode n) IncompatibleMode
