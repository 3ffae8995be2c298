-- What is left of the views and buffers of a document.
use Rattle.std.specs.Prelude.{◌≡◌, ℕ, List}
use Rattle.serde_json.specs.Data.{Data}
use Rattle.gltf_trim.specs.Lengths.{lengths}
use Rattle.gltf_trim.specs.Marks.{staying}
use Rattle.gltf_trim.specs.declared.trim.Trim.{Trim}

pub record IsTrimOf (d : Data) (buffers : List (List ℕ)) (t : Trim) : Type 0 where
  pub views : t.views ≡ staying d
  pub lengths : t.lengths.items ≡ lengths (staying d) d buffers
