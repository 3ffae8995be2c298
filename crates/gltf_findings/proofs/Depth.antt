-- The report as JSON is shallow, so that it can be read back.
use Rattle.std.proofs.Common.{◌≡◌, ◌≤◌, ℕ, List, [], ◌∷◌, map, max, refl, ap, arith}
use Rattle.serde_json.specs.Data.{depth, items_depth}
use Rattle.serde_json.specs.Read.{max_depth}
use Rattle.serde_json.specs.View.{items_of}
use Rattle.gltf_json_record.specs.Place.{Place}
use Rattle.gltf_findings.specs.declared.code.Code.{Code}
use Rattle.gltf_findings.specs.Reports.{message_data, report_data}

one : (f : List Place × Code) (fs : List (List Place × Code))
    → items_depth (items_of (map message_data (f ∷ fs))) ≡ 1
one f [] = refl
one f (g ∷ gs) = ap (λ (n : ℕ). max 1 n) (one g gs)

pub shallow : (uri : List ℕ) (found : List (List Place × Code))
    → depth (report_data uri found) ≤ max_depth
shallow uri [] = omega arith
shallow uri (f ∷ fs) = rw (one f fs) (let few : ◌≤◌ 4 max_depth = omega arith in few)
