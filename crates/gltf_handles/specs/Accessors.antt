-- Handles of accessors and their sparse parts.
use Rattle.std.specs.Prelude.{ℕ}
use Rattle.gltf_json.specs.declared.root.Root.{Root}
use Rattle.gltf_json_geometry.specs.declared.accessor.Accessor.{Accessor as AccessorRecord}
use Rattle.gltf_json_geometry.specs.declared.accessor.sparse.Sparse.{Sparse as SparseRecord}
use Rattle.gltf_json_geometry.specs.declared.accessor.sparse.Indices.{Indices as IndicesRecord}
use Rattle.gltf_json_geometry.specs.declared.accessor.sparse.Values.{Values as ValuesRecord}
use Rattle.gltf_rules.specs.declared.records.Records.{Ghosts}
use Rattle.gltf_handles.specs.declared.accessor.Accessor.{Accessor}
use Rattle.gltf_handles.specs.declared.accessor.sparse.Sparse.{Sparse}
use Rattle.gltf_handles.specs.declared.accessor.sparse.Indices.{Indices}
use Rattle.gltf_handles.specs.declared.accessor.sparse.Values.{Values}
use Rattle.gltf_handles.specs.Handle.{Handle, IsAt, Inner, IsIn}
use Rattle.gltf_handles.specs.Inner.{handle_at, handle_in}

module _ {D : Type 0} {G : Ghosts D} where
  -- what they show
  abbrev pub accessor_handle : Accessor D G → Handle AccessorRecord
  accessor_handle a = handle_at a.inner a.index

  abbrev pub sparse_handle : Sparse D G → Inner SparseRecord
  sparse_handle s = handle_in s.inner

  abbrev pub indices_handle : Indices D G → Inner IndicesRecord
  indices_handle i = handle_in i.inner

  abbrev pub values_handle : Values D G → Inner ValuesRecord
  values_handle v = handle_in v.inner

  -- the handle of accessor i of a document
  abbrev pub IsAccessor : Root → ℕ → Accessor D G → Type 0
  IsAccessor r i a = IsAt r.accessors.items r i (accessor_handle a)

  -- the handle of a sparse part, of its indices and of its values, by their records
  abbrev pub IsSparse : Root → SparseRecord → Sparse D G → Type 0
  IsSparse r x s = IsIn r x (sparse_handle s)

  abbrev pub IsIndices : Root → IndicesRecord → Indices D G → Type 0
  IsIndices r x i = IsIn r x (indices_handle i)

  abbrev pub IsValues : Root → ValuesRecord → Values D G → Type 0
  IsValues r x v = IsIn r x (values_handle v)
