-- What mending leaves of a document: statements.
use Rattle.std.specs.Prelude.{◌≡◌, ◌≢◌, ℕ, List, Option, codes, false}
use Rattle.serde_json.specs.Data.{Data}
use Rattle.serde_json.specs.Find.{get}
use Rattle.gltf_detach.specs.Detached.{detached}
use Rattle.gltf_edit.specs.Bundled.{with_some, bundled, ArePlaced}
use Rattle.gltf_edit.specs.Embedded.{embedded}
use Rattle.gltf_edit.specs.declared.picture.Picture.{Picture}
use Rattle.gltf_edit.specs.declared.span.Span.{Span}
use Rattle.gltf_json.specs.Documents.{root}
use Rattle.gltf_json.specs.Reading.{Reads}
use Rattle.gltf_mend.specs.Mended.{mended}
use Rattle.gltf_mend.specs.declared.mends.Mends.{Mends}

-- a member that is not mended
pub record IsNotMended (k : List ℕ) : Type 0 where
  pub no_animations : k ≢ codes "animations"
  pub no_meshes : k ≢ codes "meshes"
  pub no_textures : k ≢ codes "textures"

-- it stays as it is
abbrev pub LeavesMembers : Type 0
LeavesMembers =
    (mends : Mends) (k : List ℕ) → IsNotMended k → (d : Data) → get k (mended mends d) ≡ get k d

-- and may be put in before or behind
abbrev pub LeavesEdits : Type 0
LeavesEdits =
    (mends : Mends) (k : List ℕ) → IsNotMended k → (o : Option Data) (d : Data)
    → mended mends (with_some k o d) ≡ with_some k o (mended mends d)

-- ---- edits of buffers, views and images (glTF 2.0, sections 5.10, 5.11 and 5.18)

-- images may go into buffers of their own before or behind
abbrev pub LeavesPictures : Type 0
LeavesPictures =
    (mends : Mends) (ps : List (Option Picture)) (d : Data)
    → mended mends (embedded ps d) ≡ embedded ps (mended mends d)

-- and buffers may become one
abbrev pub LeavesBundles : Type 0
LeavesBundles =
    (mends : Mends) (spans : List Span) (total : ℕ) (d : Data)
    → mended mends (bundled spans total d) ≡ bundled spans total (mended mends d)

-- each view lies in its buffer, if it did
abbrev pub LeavesPlaces : Type 0
LeavesPlaces =
    (mends : Mends) (spans : List Span) (d : Data)
    → ArePlaced spans d → ArePlaced spans (mended mends d)

-- buffers and images may have URIs before or behind
abbrev pub LeavesUris : Type 0
LeavesUris =
    (mends : Mends) (us vs : List (Option (List ℕ))) (d : Data)
    → mended mends (detached us vs d) ≡ detached us vs (mended mends d)

-- ---- documents that are left whole

-- where the value of a text fits the tables of records as it stands, nothing of it is mended but
-- the names of attributes
abbrev pub LeavesWhole : Type 0
LeavesWhole =
    (mends : Mends) → mends.skip_unknown_attributes ≡ false → (text : List ℕ) (d : Data)
    → Reads text d → root.fits d → mended mends d ≡ d
