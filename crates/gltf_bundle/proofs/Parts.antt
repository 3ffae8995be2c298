-- What is written has its parts, and a text has one value.
use Rattle.std.proofs.Common.{◌≡◌, ◌<◌, ◌^◌, ℕ, List, Option, Some, option_map, sym, ap, ◌∙◌}
use Rattle.serde_json.specs.Data.{Data}
use Rattle.serde_json.specs.Read.{read}
use Rattle.gltf_glb.specs.Bytes.{padded}
use Rattle.gltf_glb.specs.Laws.{ReadsBack}
use Rattle.gltf_glb.specs.Written.{container_bytes, total_of}
use Rattle.gltf_json.specs.Reading.{Reads}
use Rattle.gltf.specs.Import.{AreParts}

-- what is written has the parts, filled up
pub parts_written : ReadsBack → (text : List ℕ) (blob : Option (List ℕ))
    → total_of text blob < 2 ^ 32
    → AreParts (container_bytes text blob) (padded 32 text) (option_map (padded 0) blob)
unfolding AreParts
parts_written law text blob fits = law text blob fits

of_some : (d e : Data) → ◌≡◌ {A = Option Data} (Some d) (Some e) → d ≡ e
of_some d e same = cc

-- a text has one value
pub one_value : (text other : List ℕ) (d e : Data) → text ≡ other → Reads text d → Reads other e
    → d ≡ e
one_value text other d e same p q = of_some d e (sym p.1 ∙ ap read same ∙ q.1)
