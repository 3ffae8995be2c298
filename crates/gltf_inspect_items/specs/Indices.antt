-- What is found in the indices of a primitive (glTF 2.0, section 3.7.2.1, "Meshes: Overview").
use Rattle.std.specs.Prelude.{ℕ, ◌==◌, ◌&&◌, ◌||◌, not, nat_le, Bool, true, false, List, [], ◌∷◌}
use Rattle.std.specs.Prelude.{Option, Some, None, slice_get, codes}
use Rattle.std.specs.List.{list_any}
use Rattle.gltf_json.specs.declared.root.Root.{Root}
use Rattle.gltf_json_record.specs.declared.validation.Checked.{Checked}
use Rattle.gltf_json_record.specs.declared.validation.Checked.TheVariants.{Valid}
use Rattle.gltf_json_geometry.specs.declared.accessor.ComponentType.{ComponentType}
use Rattle.gltf_json_geometry.specs.declared.accessor.ComponentType.TheVariants.{U8, U16, U32}
use Rattle.gltf_json_geometry.specs.declared.accessor.Accessor.{Accessor}
use Rattle.gltf_json_geometry.specs.declared.mesh.Mesh.{Mesh}
use Rattle.gltf_json_geometry.specs.declared.mesh.Mode.{Mode}
use Rattle.gltf_json_geometry.specs.declared.mesh.Mode.TheVariants.{Triangles}
use Rattle.gltf_json_geometry.specs.declared.mesh.Primitive.{Primitive}
use Rattle.gltf_findings.specs.declared.code.Code.TheVariants.{IndexOob, IndexPrimitiveRestart}
use Rattle.gltf_findings.specs.declared.code.Code.TheVariants.{IndexTriangleDegenerate}
use Rattle.gltf_findings.specs.Checks.{Checks, Nothing, Condition, ◌&◌, member, optional_checks}
use Rattle.gltf_findings.specs.Checks.{list_checks}
use Rattle.gltf_inspect_items.specs.Attributes.{vertex_count}
use Rattle.gltf_inspect_items.specs.Reading.{Bytes, items_at, number}

-- "indices accessor MUST NOT contain the maximum possible value for the component type used"
abbrev pub is_restart : ℕ → ℕ → Bool
is_restart greatest index = index == greatest

-- an index that names no vertex, where their number is known, and that is not the maximum
abbrev pub is_past : Option ℕ → ℕ → ℕ → Bool
is_past None greatest index = false
is_past (Some vertices) greatest index = nat_le vertices index && not (index == greatest)

-- two of three are equal
abbrev pub has_equal : ℕ → ℕ → ℕ → Bool
has_equal i j k = i == j || j == k || i == k

-- of the items, three by three, what an item stands for by f
abbrev pub any_degenerate : {X : Type 0} → (X → ℕ) → List X → Bool
any_degenerate f (a ∷ b ∷ c ∷ items) = has_equal (f a) (f b) (f c) || any_degenerate f items
any_degenerate f _ = false

abbrev pub are_triangles : Checked Mode → Bool
are_triangles (Valid Triangles) = true
are_triangles _ = false

-- the checks of indices, whose type has this greatest number
abbrev pub numbers_checks : {X : Type 0} → (X → ℕ) → ℕ → Option ℕ → Bool → List X → Checks
numbers_checks f greatest vertices triangles items =
    Condition (not (list_any (λ x. is_past vertices greatest (f x)) items)) IndexOob
    & Condition (not (list_any (λ x. is_restart greatest (f x)) items)) IndexPrimitiveRestart
    & Condition (not (triangles && any_degenerate f items)) IndexTriangleDegenerate

-- those of the accessor at an index, whose components are of that type
abbrev pub typed_checks : Root → Bytes → Option ℕ → Bool → ℕ → Checked ComponentType → Checks
typed_checks r bytes vertices triangles i (Valid U8) =
    numbers_checks (λ n. n) 255 vertices triangles (items_at (number 1) r bytes i)
typed_checks r bytes vertices triangles i (Valid U16) =
    numbers_checks (λ n. n) 65535 vertices triangles (items_at (number 2) r bytes i)
typed_checks r bytes vertices triangles i (Valid U32) =
    numbers_checks (λ n. n) 4294967295 vertices triangles (items_at (number 4) r bytes i)
typed_checks r bytes vertices triangles i _ = Nothing

abbrev pub index_checks : Root → Bytes → Option ℕ → Bool → ℕ → Checks
index_checks r bytes vertices triangles i =
    optional_checks (λ (a : Accessor). typed_checks r bytes vertices triangles i a.component_type)
    (slice_get r.accessors.items i)

abbrev pub primitive_checks : Root → Bytes → Primitive → Checks
primitive_checks r bytes p =
    member (codes "indices") (optional_checks
    (index_checks r bytes (vertex_count r.accessors.items p.attributes.entries)
    (are_triangles p.mode)) p.indices)

abbrev pub mesh_checks : Root → Bytes → Mesh → Checks
mesh_checks r bytes m =
    member (codes "primitives") (list_checks (primitive_checks r bytes) m.primitives.items)
