-- Handles of buffers and their views.
use Rattle.std.specs.Prelude.{ℕ, List, Option, Some, None}
use Rattle.gltf_json.specs.declared.root.Root.{Root}
use Rattle.gltf_json_geometry.specs.declared.buffer.Buffer.{Buffer as BufferRecord}
use Rattle.gltf_json_geometry.specs.declared.buffer.View.{View as ViewRecord}
use Rattle.gltf_rules.specs.declared.records.Records.{Ghosts}
use Rattle.gltf_handles.specs.declared.buffer.Buffer.{Buffer}
use Rattle.gltf_handles.specs.declared.buffer.View.{View}
use Rattle.gltf_handles.specs.declared.buffer.Source.{Source}
use Rattle.gltf_handles.specs.declared.buffer.Source.TheVariants.{Bin, Uri}
use Rattle.gltf_handles.specs.Handle.{Handle, IsAt}
use Rattle.gltf_handles.specs.Inner.{handle_at}

module _ {D : Type 0} {G : Ghosts D} where
  -- what they show
  abbrev pub buffer_handle : Buffer D G → Handle BufferRecord
  buffer_handle b = handle_at b.inner b.index

  abbrev pub view_handle : View D G → Handle ViewRecord
  view_handle v = handle_at v.inner v.index

  -- the handle of buffer i of a document
  abbrev pub IsBuffer : Root → ℕ → Buffer D G → Type 0
  IsBuffer r i b = IsAt r.buffers.items r i (buffer_handle b)

  -- the handle of view i of a document
  abbrev pub IsView : Root → ℕ → View D G → Type 0
  IsView r i v = IsAt r.buffer_views.items r i (view_handle v)

-- the URI of a source, where it is one
abbrev pub uri_of : Source → Option (List ℕ)
uri_of Bin = None
uri_of (Uri t) = Some t.now
