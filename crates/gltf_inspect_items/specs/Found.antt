-- What is found in the indices at an accessor, whatever is drawn by them.
use Rattle.std.specs.Prelude.{◌≡◌, ℕ, ◌==◌, ◌&&◌, not, nat_le, if◌then◌else◌, Bool, true, false}
use Rattle.std.specs.Prelude.{List, [], ◌∷◌, ⊤, Option, Some, None, slice_get, unwrap_or}
use Rattle.std.specs.List.{list_any}
use Rattle.gltf_json.specs.declared.root.Root.{Root}
use Rattle.gltf_json_record.specs.declared.validation.Checked.{Checked}
use Rattle.gltf_json_record.specs.declared.validation.Checked.TheVariants.{Valid}
use Rattle.gltf_json_geometry.specs.declared.accessor.Accessor.{Accessor}
use Rattle.gltf_json_geometry.specs.declared.accessor.ComponentType.{ComponentType}
use Rattle.gltf_json_geometry.specs.declared.accessor.ComponentType.TheVariants.{U8, U16, U32}
use Rattle.gltf_findings.specs.declared.code.Code.TheVariants.{IndexOob, IndexPrimitiveRestart}
use Rattle.gltf_findings.specs.declared.code.Code.TheVariants.{IndexTriangleDegenerate}
use Rattle.gltf_findings.specs.Checks.{Checks, Condition, ◌&◌}
use Rattle.gltf_inspect_items.specs.Indices.{is_past, is_restart, any_degenerate}
use Rattle.gltf_inspect_items.specs.Reading.{Bytes, items_at, number}
use Rattle.gltf_inspect_items.specs.declared.found.Found.{Found}

-- the greater of an index and those before it
abbrev pub wider : Option ℕ → ℕ → Option ℕ
wider None index = Some index
wider (Some greatest) index = if nat_le index greatest then Some greatest else Some index

-- nothing is found in no indices
abbrev pub nothing : Found
nothing = record { greatest = None; restarts = false; degenerate = None }

-- one more index, of a type with this greatest number
abbrev pub with_index : ℕ → Found → ℕ → Found
with_index most found index =
    if index == most then record found { restarts = true }
    else record found { greatest = wider found.greatest index }

abbrev pub with_indices : ℕ → Found → List ℕ → Found
with_indices most found [] = found
with_indices most found (index ∷ indices) =
    with_indices most (with_index most found index) indices

-- an index names no vertex, where this is the greatest one
abbrev pub past_by : Option ℕ → Option ℕ → Bool
past_by None greatest = false
past_by (Some vertices) None = false
past_by (Some vertices) (Some greatest) = nat_le vertices greatest

-- it decides the checks of these items, whatever the number of vertices; of triangles, where these
-- were looked at
pub record IsFound {X : Type 0} (f : X → ℕ) (most : ℕ) (items : List X) (found : Found)
    : Type 0 where
  pub past : (vertices : Option ℕ) → past_by vertices found.greatest
      ≡ list_any (λ x. is_past vertices most (f x)) items
  pub restarts : found.restarts ≡ list_any (λ x. is_restart most (f x)) items
  pub degenerate : (is : Bool) → found.degenerate ≡ Some is → is ≡ any_degenerate f items

-- of the items at an accessor, by the type of its components
abbrev pub IsFoundIn : Root → Bytes → ℕ → Checked ComponentType → Found → Type 0
IsFoundIn r bytes i (Valid U8) found =
    IsFound (λ n. n) 255 (items_at (number 1) r bytes i) found
IsFoundIn r bytes i (Valid U16) found =
    IsFound (λ n. n) 65535 (items_at (number 2) r bytes i) found
IsFoundIn r bytes i (Valid U32) found =
    IsFound (λ n. n) 4294967295 (items_at (number 4) r bytes i) found
IsFoundIn r bytes i _ found = ⊤

-- of the accessor at an index
abbrev pub IsFoundAt : Root → Bytes → ℕ → Option Accessor → Found → Type 0
IsFoundAt r bytes i None found = ⊤
IsFoundAt r bytes i (Some a) found = IsFoundIn r bytes i a.component_type found

-- whether a triangle of them names a vertex twice
abbrev pub degenerate_in : Root → Bytes → ℕ → Checked ComponentType → Bool
degenerate_in r bytes i (Valid U8) = any_degenerate (λ n. n) (items_at (number 1) r bytes i)
degenerate_in r bytes i (Valid U16) = any_degenerate (λ n. n) (items_at (number 2) r bytes i)
degenerate_in r bytes i (Valid U32) = any_degenerate (λ n. n) (items_at (number 4) r bytes i)
degenerate_in r bytes i _ = false

-- such components are indices
abbrev pub are_indices : Checked ComponentType → Bool
are_indices (Valid U8) = true
are_indices (Valid U16) = true
are_indices (Valid U32) = true
are_indices _ = false

-- what was found so far, at the index of each accessor
abbrev pub AreFound : Root → Bytes → List (Option Found) → Type 0
AreFound r bytes table = (i : ℕ) (found : Found) → slice_get table i ≡ Some (Some found)
    → IsFoundAt r bytes i (slice_get r.accessors.items i) found

-- the checks of indices in which that was found, as triangles were looked at where they are drawn
abbrev pub found_checks : Option ℕ → Bool → Found → Checks
found_checks vertices triangles found =
    Condition (not (past_by vertices found.greatest)) IndexOob
    & Condition (not found.restarts) IndexPrimitiveRestart
    & Condition (not (triangles && unwrap_or found.degenerate false)) IndexTriangleDegenerate
