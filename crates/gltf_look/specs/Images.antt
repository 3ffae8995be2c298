-- Handles of images.
use Rattle.std.specs.Prelude.{◌≡◌, ℕ, Some, None}
use Rattle.std.specs.Option.{option_copied}
use Rattle.gltf_json.specs.declared.root.Root.{Root}
use Rattle.gltf_json_scene.specs.declared.image.Image.{Image as ImageRecord}
use Rattle.gltf_rules.specs.declared.records.Records.{Ghosts}
use Rattle.gltf_handles.specs.Buffers.{IsView}
use Rattle.gltf_handles.specs.Handle.{Handle, IsAt}
use Rattle.gltf_handles.specs.Inner.{handle_at}
use Rattle.gltf_handles.specs.Members.{Follows, text}
use Rattle.gltf_look.specs.declared.image.Image.{Image}
use Rattle.gltf_look.specs.declared.image.Source.{Source}
use Rattle.gltf_look.specs.declared.image.Source.TheVariants.{View, Uri}

module _ {D : Type 0} {G : Ghosts D} where
  -- what they show
  abbrev pub image_handle : Image D G → Handle ImageRecord
  image_handle i = handle_at i.inner i.index

  -- the handle of image i of a document
  abbrev pub IsImage : Root → ℕ → Image D G → Type 0
  IsImage r i h = IsAt r.images.items r i (image_handle h)

  -- where the bytes are: in the view that the image names, and else where its URI leads (glTF 2.0,
  -- section 3.8.3)
  abbrev pub IsSource : Handle ImageRecord → Source D G → Type 0
  IsSource i (View view mime_type) =
      Follows (IsView i.document) i.json.buffer_view (Some view)
      × (text i.json.mime_type ≡ Some mime_type.now)
  IsSource i (Uri uri mime_type) =
      (i.json.buffer_view ≡ None)
      × (text i.json.uri ≡ Some uri.now)
      × (text i.json.mime_type ≡ option_copied mime_type)
