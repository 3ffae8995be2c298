-- Edits of members.
use Rattle.std.specs.Prelude.{ℕ, List, option_map}
use Rattle.serde_json.specs.Data.{Data}
use Rattle.serde_json.specs.Find.{get}
use Rattle.gltf_edit.specs.Bundled.{with_some}

-- with f of the member k, where it is there
abbrev pub changed : List ℕ → (Data → Data) → Data → Data
changed k f d = with_some k (option_map f (get k d)) d
