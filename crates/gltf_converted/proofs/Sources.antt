-- A file that a source has, as it is imported.
use Rattle.std.proofs.Common.{◌≡◌, ℕ, List, Option, Some, sym, subst, ◌∙◌}
use Rattle.std.specs.Prelude.{◌↔◌}
use Rattle.serde_json.specs.Data.{Data}
use Rattle.gltf_json.specs.declared.root.Root.{Root}
use Rattle.gltf_names.specs.Named.{File}
use Rattle.gltf_buffers.specs.Names.{Names, Held}
use Rattle.gltf_required.specs.Import.{IsRead}
use Rattle.gltf_required.specs.declared.required.Required.{Required}
use Rattle.gltf_bundle.specs.Bundle.{IsSource}
use Rattle.gltf_split.specs.Laws.{Holds}

of_some : {x y : List ℕ} → ◌≡◌ {A = Option (List ℕ)} (Some x) (Some y) → x ≡ y
of_some same = cc

source_read : (required : Required) (names : Names) (path : List ℕ) (value : Data) (r : Root)
    (buffers : List (List ℕ)) (source : IsSource required names path value r buffers)
    → IsRead required names source.bytes r buffers
source_read required names path value r buffers source = record {
  blob = source.blob;
  document = record {
    text = source.text;
    value = value;
    parts = source.parts;
    reads = source.reads;
    records = source.records;
  };
  data_ = source.data_;
}

-- the bytes at the path are read so
pub held_read : (required : Required) (there : Holds) (path bytes : List ℕ) (value : Data)
    (r : Root) (buffers : List (List ℕ)) → there (File path) ≡ Some bytes
    → IsSource required (Held there) path value r buffers
    → IsRead required (Held there) bytes r buffers
held_read required there path bytes value r buffers held source =
    subst (λ (x : List ℕ). IsRead required (Held there) x r buffers)
    (of_some (sym source.gives ∙ held))
    (source_read required (Held there) path value r buffers source)

pub both : {A B C : Type 0} → A ↔ B → B ↔ C → A ↔ C
both one other = (λ x. other.0 (one.0 x), λ z. one.1 (other.1 z))
