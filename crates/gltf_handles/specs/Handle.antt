-- What handles show.
use Rattle.std.specs.Prelude.{◌≡◌, ℕ, List, Option, Some, None, slice_get}
use Rattle.gltf_json.specs.declared.root.Root.{Root}

-- a handle of a record in a list: the document, the index and the record
pub record Handle (R : Type 0) : Type 0 where
  pub document : Root
  pub index : ℕ
  pub json : R

-- it is that of the record at index i of the list, in the document r
pub record IsAt {R : Type 0} (list : List R) (r : Root) (i : ℕ) (h : Handle R) : Type 0 where
  pub document : h.document ≡ r
  pub index : h.index ≡ i
  pub json : slice_get list i ≡ Some h.json

-- a handle of a record that stands alone in a member: the document and the record
pub record Inner (R : Type 0) : Type 0 where
  pub document : Root
  pub json : R

-- it is that of the record x, in the document r
pub record IsIn {R : Type 0} (r : Root) (x : R) (h : Inner R) : Type 0 where
  pub document : h.document ≡ r
  pub json : h.json ≡ x

-- a handle that may have no record: the document, the index where there is a record, and the record
-- or the one of defaults that stands for it
pub record Placed (R : Type 0) : Type 0 where
  pub document : Root
  pub index : Option ℕ
  pub json : R

-- it is that of the record at index i of the list, in the document r
pub record IsPlaced {R : Type 0} (list : List R) (r : Root) (i : ℕ) (h : Placed R) : Type 0 where
  pub document : h.document ≡ r
  pub index : h.index ≡ Some i
  pub json : slice_get list i ≡ Some h.json

-- it has no record, and the defaults stand for it, in the document r
pub record IsDefault {R : Type 0} (defaults : R) (r : Root) (h : Placed R) : Type 0 where
  pub document : h.document ≡ r
  pub index : h.index ≡ None
  pub json : h.json ≡ defaults
