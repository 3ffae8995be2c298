-- What was loaded, and what is made of it.
use Rattle.std.proofs.Common.{◌≡◌, ℕ, ◌≤◌, List, length, Option, sym, subst}
use Rattle.std.proofs.Common.{◌∙◌, arith}
use Rattle.std.proofs.Common.{◌++◌}
use Rattle.serde_json.specs.Data.{Data, depth}
use Rattle.serde_json.specs.Read.{max_depth}
use Rattle.gltf_json.specs.Documents.{root}
use Rattle.gltf_json.specs.Reading.{Reads}
use Rattle.gltf_json.specs.declared.root.Root.{Root}
use Rattle.gltf.specs.Laws.{OneTextAndBlob}
use Rattle.gltf_names.specs.Named.{Named, File}
use Rattle.gltf_buffers.specs.Buffers.{Source, sources_of, AreBytes}
use Rattle.gltf_buffers.specs.Names.{Names, Gives}
use Rattle.gltf_required.specs.Import.{IsOpenedAs}
use Rattle.gltf_required.specs.Left.{same_sources}
use Rattle.gltf_required.specs.Required.{as_read}
use Rattle.gltf_required.specs.declared.required.Required.{Required}
use Rattle.gltf_edit.specs.Bundled.{bundled, ArePlaced}
use Rattle.gltf_edit.specs.DepthLaws.{bundled_depth}
use Rattle.gltf_edit.specs.Embedded.{embedded}
use Rattle.gltf_edit.specs.EmbeddedLaws.{embedded_depth}
use Rattle.gltf_edit.specs.Joined.{joined, spans_from}
use Rattle.gltf_edit.specs.declared.picture.Picture.{Picture}
use Rattle.gltf_moved.specs.Laws.{moved_value}
use Rattle.gltf_bundle.specs.declared.joining.Places.{Places}
use Rattle.gltf_bundle.specs.Bundle.{IsValueOf, IsSource, IsGathered, ArePlaces, IsContainerOf}
use Rattle.gltf_bundle.specs.Bundle.{IsCompact, Bundles}
use Rattle.gltf_bundle.specs.Bundle.{blob_of}
use Rattle.gltf_bundle.proofs.Parts.{one_value}
use Rattle.gltf_bundle.specs.declared.options.Keep.{Keep}

-- the bytes of the buffers of what is left are those of the document
pub whole_bytes : (required : Required) (names : Names) (bytes : List ℕ) (left : Root)
    (blob : Option (List ℕ)) (opened : IsOpenedAs required bytes left blob)
    (buffers : List (List ℕ))
    → AreBytes names (sources_of left) blob (length (sources_of left)) buffers
    → AreBytes names (sources_of opened.root) blob (length (sources_of opened.root)) buffers
whole_bytes required names bytes left blob opened buffers data_ =
    subst (λ (xs : List Source). AreBytes names xs blob (length xs) buffers)
    (same_sources required opened.root left opened.is_left) data_

pub loaded : OneTextAndBlob → (required : Required) (names : Names) (path bytes : List ℕ)
    → Gives names (File path) bytes
    → (left : Root) (blob : Option (List ℕ)) (opened : IsOpenedAs required bytes left blob)
    → (value : Data) → IsValueOf bytes value → (buffers : List (List ℕ))
    → AreBytes names (sources_of left) blob (length (sources_of left)) buffers
    → IsSource required names path value opened.root buffers
loaded law required names path bytes gives left blob opened value is buffers data_ =
    let document = opened.document in
    let same =
    law bytes document.text is.text blob is.blob document.parts is.parts in
    record {
      bytes = bytes;
      gives = gives;
      text = document.text;
      blob = blob;
      parts = document.parts;
      reads = subst (λ (t : List ℕ). Reads t value) same.0 is.reads;
      nests = is.nests;
      records =
          subst (λ (d : Data). root.is (as_read required d) opened.root)
          (one_value document.text is.text document.value value
          (sym same.0) document.reads is.reads)
          document.records;
      left = left;
      is_left = opened.is_left;
      rules = opened.rules;
      data_ = whole_bytes required names bytes left blob opened buffers data_;
    }

-- the container's value nests no deeper than the file's may
pub moved_depth : (all : List (List ℕ)) (ps : List (Option Picture)) (value : Data)
    → depth value ≤ max_depth → depth (moved_value all ps value) ≤ max_depth
moved_depth all ps value nests =
    bundled_depth (spans_from 0 all) (length (joined all)) (embedded ps value) max_depth
    (omega arith)
    (embedded_depth ps value max_depth (omega arith) nests)

pub is_bundle : (required : Required) (names : Names) (path : List ℕ) (keep : Keep) (value : Data)
    (r : Root) (buffers images : List (List ℕ)) (ps : List (Option Picture)) (lost : List Named)
    → IsGathered required names path keep value r buffers images ps lost
    → (all : Places) → ArePlaces (buffers ++ images) all
    → ArePlaced all.spans.items (embedded ps value)
    → (after : Data) → after ≡ bundled all.spans.items all.total (embedded ps value)
    → (answer : List ℕ) → IsContainerOf after (blob_of (buffers ++ images)) answer
    → (old new : List Named) → new ≡ lost ++ old
    → Bundles required names path keep old new answer
is_bundle required names path keep value r buffers images ps lost gathered all is placed after
    edited answer container old new fails =
    let same : after ≡ moved_value (buffers ++ images) ps value =
    edited ∙ (λ i. bundled (is.spans i) (is.total i) (embedded ps value)) in
    let short : depth after ≤ max_depth =
    subst (λ (d : Data). depth d ≤ max_depth) (sym same)
    (moved_depth (buffers ++ images) ps value gathered.source.nests) in (
      record {
        value = value;
        root_ = r;
        buffers = buffers;
        images = images;
        pictures = ps;
        lost = lost;
        gathered = gathered;
        placed = subst (λ spans. ArePlaced spans (embedded ps value)) is.spans placed;
        short = is.fits;
        json = container.json;
        reads = subst (λ (d : Data). Reads container.json d) same (container.reads short);
        compact = subst (λ (d : Data). IsCompact d container.json) same container.compact;
        fits = container.fits;
        written = container.written;
      },
      fails,
    )
