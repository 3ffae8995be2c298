-- A file of which the records are known, opened without the names of a list.
use Rattle.std.specs.Prelude.{◌≡◌, ℕ, List, [], Option, Vec}
use Rattle.std.specs.declared.alloc.Global.{Global}
use Rattle.gltf_json.specs.declared.root.Root.{Root}
use Rattle.gltf_validation.specs.Documents.{Faults}
use Rattle.gltf_options.specs.Besides.{IsBesides, required_of}
use Rattle.gltf_options.specs.Names.{texts, taken_of}
use Rattle.gltf_options.specs.declared.file.Opened.{Opened}

-- the document is that of these records without the names, and breaks no rule; the names that were
-- left out are beside it, and the blob is the same
pub record IsOpened (also : List (List ℕ)) (whole : Root) (blob : Option (Vec ℕ Global))
    (file : Opened) : Type 0 where
  pub besides : IsBesides also whole file.gltf.document
  pub named : texts file.also_required.items ≡ taken_of also (required_of whole)
  pub rules : Faults file.gltf.document ≡ []
  pub blob_is : file.gltf.blob ≡ blob
