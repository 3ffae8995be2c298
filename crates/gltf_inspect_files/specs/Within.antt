-- What is found in the items of a file, in all, or as far as a budget goes, which follows the sizes of
-- the file and of its buffers.
use Rattle.std.specs.Prelude.{◌≡◌, ◌++◌, ◌+◌, ◌*◌, ℕ, Bool, List, [], length}
use Rattle.std.specs.Prelude.{Option, Some, None, slice_get}
use Rattle.gltf_json.specs.declared.root.Root.{Root}
use Rattle.gltf_buffers.specs.Buffers.{sources_of}
use Rattle.gltf_buffers.specs.Names.{Names}
use Rattle.gltf.specs.Import.{AcceptsWith}
use Rattle.gltf_findings.specs.Checks.{Checks, ◌&◌, findings_of}
use Rattle.gltf_inspect_items.specs.Plans.{is_out, items_checks_but}
use Rattle.gltf_inspect_items.specs.Reading.{Bytes}
use Rattle.gltf_inspect_values.specs.Plans.{values_checks_but}
use Rattle.gltf_ranges.specs.Alike.{AreFirsts}
use Rattle.gltf_ranges.specs.Budget.{left_out}
use Rattle.gltf_shared.specs.Lengths.{capped, no_names, shared_len}
use Rattle.gltf_inspect_files.specs.Reports.{Found, Said, IsOfAccepted, records_findings}
use Rattle.gltf_inspect_files.specs.Reports.{contents_checks}

-- the checks of items and values, where some accessors are left out
abbrev pub contents_checks_but : (ℕ → Bool) → Root → Bytes → Checks
contents_checks_but out r bytes = items_checks_but out r bytes & values_checks_but out r bytes

-- for each byte of the file and of its buffers so many bytes of items; buffers that lead to one name
-- have one another's bytes, which count once
abbrev pub budget : ℕ → ℕ → Root → List (List ℕ) → ℕ
budget share len r buffers =
    capped (share * capped (len + shared_len no_names 0 (sources_of r) buffers))

-- what is found in items and values as far as a budget goes
pub record AreContentsWithin (budget : ℕ) (r : Root) (buffers : List (List ℕ)) (found : Found)
    : Type 0 where
  pub firsts : List ℕ
  pub are : AreFirsts r.accessors.items firsts
  pub same : found ≡ findings_of []
      (contents_checks_but (is_out (left_out budget r firsts)) r (slice_get buffers))

-- the same by the share and the length of the file; in all items, where there is no share
abbrev pub AreContents : Option ℕ → ℕ → Root → List (List ℕ) → Found → Type 0
AreContents None len r buffers found =
    found ≡ findings_of [] (contents_checks r (slice_get buffers))
AreContents (Some share) len r buffers found =
    AreContentsWithin (budget share len r buffers) r buffers found

-- all five layers hold of this root with these bytes of its buffers
pub record IsOfAcceptedWithin (share : ℕ) (names : Names) (bytes : List ℕ) (root : Root)
    (buffers : List (List ℕ)) (found : Found) : Type 0 where
  pub accepted : AcceptsWith names bytes root buffers
  pub contents : Found
  pub within : AreContentsWithin (budget share (length bytes) root buffers) root buffers contents
  pub same : found ≡ records_findings root ++ contents

-- what is said of a file that is accepted, by the share
abbrev pub said_by : Option ℕ → Said
said_by None = IsOfAccepted
said_by (Some share) = IsOfAcceptedWithin share
