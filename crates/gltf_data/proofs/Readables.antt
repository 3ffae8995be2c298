-- All conditions hold exactly where a part, and an accessor, can be read.
use Rattle.std.proofs.Common.{◌≡◌, ℕ, ◌+◌, ◌≤◌, List, length, ◌++◌, refl}
use Rattle.std.specs.Prelude.{Option, Some, None}
use Rattle.std.proofs.lemmas.Bool.{false≢true, ltb-true, leb-true, eqb-true, lt-ltb, le-leb, eq-eqb}
use Rattle.gltf_json.specs.declared.root.Root.{Root}
use Rattle.gltf_json_geometry.specs.declared.accessor.Accessor.{Accessor}
use Rattle.gltf_json_geometry.specs.declared.accessor.sparse.Sparse.{Sparse}
use Rattle.gltf_handles.specs.Sizes.{item_size}
use Rattle.gltf_data.specs.Parts.{Part, FitsIn, stride, view_offset, base_part, index_part}
use Rattle.gltf_data.specs.Parts.{value_part, Answers, PartReadable, BaseReadable, PartsReadable}
use Rattle.gltf_data.specs.Parts.{Readable}
use Rattle.gltf_data.specs.declared.unreadable.Part as part
use Rattle.gltf_data.specs.declared.unreadable.Part.TheVariants.{Items, SparseIndices}
use Rattle.gltf_data.specs.declared.unreadable.Part.TheVariants.{SparseValues}
use Rattle.gltf_data.specs.Unreadable.{part_conditions, viewed_conditions, base_conditions}
use Rattle.gltf_data.specs.Unreadable.{parts_conditions, conditions, items_end}
use Rattle.gltf_data.proofs.Conditions.{AllHold, both_hold, left_hold, right_hold}

pub part_fits : (which : part.Part) (p : Part) (given : Option (List ℕ))
    → AllHold (part_conditions which p given) → FitsIn p given
part_fits which p None h = absurd (false≢true h.1.1.0)
part_fits which p (Some bytes) h = record {
  some = ltb-true 0 p.count h.0;
  apart = leb-true p.size (stride p.view p.size) h.1.0;
  view_within =
      leb-true (view_offset p.view + p.view.byte_length) (length bytes) h.1.1.1.0;
  items_within = leb-true (items_end p) p.view.byte_length h.1.1.1.1.0;
}

pub part_holds : (which : part.Part) (p : Part) (given : Option (List ℕ)) → FitsIn p given
    → AllHold (part_conditions which p given)
part_holds which p None h = absurd h
part_holds which p (Some bytes) h = (
  lt-ltb 0 p.count h.some,
  (
    le-leb p.size (stride p.view p.size) h.apart,
    (
      refl,
      (
        le-leb (view_offset p.view + p.view.byte_length) (length bytes) h.view_within,
        (le-leb (items_end p) p.view.byte_length h.items_within, tt),
      ),
    ),
  ),
)

pub viewed_fits : (which : part.Part) (part : Option Part) (given : Option (List ℕ))
    → AllHold (viewed_conditions which part given) → PartReadable part given
viewed_fits which None given h = absurd (false≢true h.0)
viewed_fits which (Some p) given h = part_fits which p given h

pub viewed_holds : (which : part.Part) (part : Option Part) (given : Option (List ℕ))
    → PartReadable part given → AllHold (viewed_conditions which part given)
viewed_holds which None given h = absurd h
viewed_holds which (Some p) given h = part_holds which p given h

pub base_fits : (count : ℕ) (part : Option Part) (given : Option (List ℕ))
    → AllHold (base_conditions count part given) → BaseReadable count part given
base_fits count None given h = ltb-true 0 count h.0
base_fits count (Some p) given h = part_fits Items p given h

pub base_holds : (count : ℕ) (part : Option Part) (given : Option (List ℕ))
    → BaseReadable count part given → AllHold (base_conditions count part given)
base_holds count None given h = (lt-ltb 0 count h, tt)
base_holds count (Some p) given h = part_holds Items p given h

pub parts_fit : (size : ℕ) (r : Root) (a : Accessor) (s : Option Sparse) (o : Answers)
    → AllHold (parts_conditions size r a s o) → PartsReadable size r a s o
parts_fit size r a None o h = viewed_fits Items (base_part size r a) o.base h
parts_fit size r a (Some s) o h =
    let base = base_conditions a.count (base_part size r a) o.base in
    let indices = viewed_conditions SparseIndices (index_part r s) o.indices in
    let values = viewed_conditions SparseValues (value_part size r s) o.values in
    let others = right_hold base (indices ++ values) h in
    record {
      base = base_fits a.count (base_part size r a) o.base (left_hold base (indices ++ values) h);
      indices =
          viewed_fits SparseIndices (index_part r s) o.indices (left_hold indices values others);
      values =
          viewed_fits SparseValues (value_part size r s) o.values
          (right_hold indices values others);
    }

pub parts_hold : (size : ℕ) (r : Root) (a : Accessor) (s : Option Sparse) (o : Answers)
    → PartsReadable size r a s o → AllHold (parts_conditions size r a s o)
parts_hold size r a None o h = viewed_holds Items (base_part size r a) o.base h
parts_hold size r a (Some s) o h =
    both_hold (base_conditions a.count (base_part size r a) o.base)
    (viewed_conditions SparseIndices (index_part r s) o.indices
    ++ viewed_conditions SparseValues (value_part size r s) o.values)
    (base_holds a.count (base_part size r a) o.base h.base)
    (both_hold (viewed_conditions SparseIndices (index_part r s) o.indices)
    (viewed_conditions SparseValues (value_part size r s) o.values)
    (viewed_holds SparseIndices (index_part r s) o.indices h.indices)
    (viewed_holds SparseValues (value_part size r s) o.values h.values))

pub readable_from : (size : ℕ) (r : Root) (a : Accessor) (o : Answers)
    → AllHold (conditions size r a o) → Readable size r a o
readable_from size r a o h = record {
  same_size = eqb-true size (item_size a) h.0;
  parts = parts_fit size r a a.sparse o h.1;
}

pub conditions_hold : (size : ℕ) (r : Root) (a : Accessor) (o : Answers)
    → Readable size r a o → AllHold (conditions size r a o)
conditions_hold size r a o h =
    (eq-eqb size (item_size a) h.same_size, parts_hold size r a a.sparse o h.parts)
