-- The indices that a sparse accessor stores (glTF 2.0, sections 3.6.2.3, "Sparse Accessors", 5.2
-- and 5.3).
use Rattle.std.specs.Prelude.{ℕ, not, nat_le, Bool, List, [], map, codes, Option, Some, None}
use Rattle.std.specs.Prelude.{unwrap_or}
use Rattle.std.specs.List.{list_any}
use Rattle.byteorder.specs.Endian.{little_number}
use Rattle.gltf_json.specs.declared.root.Root.{Root}
use Rattle.gltf_json_record.specs.declared.validation.Checked.{Checked}
use Rattle.gltf_json_record.specs.declared.validation.Checked.TheVariants.{Valid}
use Rattle.gltf_json_geometry.specs.declared.accessor.Accessor.{Accessor}
use Rattle.gltf_json_geometry.specs.declared.accessor.ComponentType.{ComponentType}
use Rattle.gltf_json_geometry.specs.declared.accessor.ComponentType.TheVariants.{U8, U16, U32}
use Rattle.gltf_json_geometry.specs.declared.accessor.sparse.Sparse.{Sparse}
use Rattle.gltf_items.specs.ItemIter.{items_left}
use Rattle.gltf_items.specs.declared.item.Item.{Ghosts}
use Rattle.gltf_items.specs.declared.item_iter.ItemIter.{ItemIter}
use Rattle.gltf_findings.specs.declared.code.Code.TheVariants.{SparseIndicesNonIncreasing}
use Rattle.gltf_findings.specs.declared.code.Code.TheVariants.{SparseIndexOob}
use Rattle.gltf_findings.specs.Checks.{Checks, Nothing, Condition, ◌&◌, member, optional_checks}
use Rattle.gltf_inspect_items.specs.Parts.{part_in, part_given}
use Rattle.gltf_inspect_items.specs.Reading.{Bytes}
use Rattle.gltf_inspect_values.specs.Falls.{falls}

-- the indices of a sparse accessor, each of n bytes, at their addresses; none where they cannot be
-- read
abbrev pub stored : {X : Type 0} → ℕ → (List ℕ → X) → Root → Bytes → Sparse → List X
stored n value r bytes s =
    unwrap_or (part_given value
    (part_in n r s.indices.buffer_view s.indices.byte_offset s.count) bytes) []

-- the items that are left, where some were read
abbrev pub left : {X : Type 0} → {t : Ghosts X} → Option (ItemIter X t) → List X
left None = []
left (Some items) = items_left items

-- "The indices MUST form a strictly increasing sequence"
abbrev pub is_not_above : ℕ → ℕ → Bool
is_not_above before index = nat_le index before

-- the checks of the indices of an accessor of so many items, which stand for numbers by f
abbrev pub stored_checks : {X : Type 0} → (X → ℕ) → ℕ → List X → Checks
stored_checks f count items =
    Condition (not (falls is_not_above None (map f items))) SparseIndicesNonIncreasing
    & Condition (not (list_any (λ x. nat_le count (f x)) items)) SparseIndexOob

-- by their type
abbrev pub typed_checks : Root → Bytes → ℕ → Sparse → Checked ComponentType → Checks
typed_checks r bytes count s (Valid U8) =
    stored_checks (λ n. n) count (stored 1 (little_number 1) r bytes s)
typed_checks r bytes count s (Valid U16) =
    stored_checks (λ n. n) count (stored 2 (little_number 2) r bytes s)
typed_checks r bytes count s (Valid U32) =
    stored_checks (λ n. n) count (stored 4 (little_number 4) r bytes s)
typed_checks r bytes count s _ = Nothing

-- whether the accessor has a view or not, and whatever its count is
abbrev pub sparse_checks : Root → Bytes → Accessor → Checks
sparse_checks r bytes a =
    member (codes "sparse") (member (codes "indices")
    (optional_checks (λ (s : Sparse). typed_checks r bytes a.count s s.indices.component_type)
    a.sparse))
