-- The text of broken rules, one more at a time.
use Rattle.std.proofs.Common.{◌≡◌, ◌<◌, ◌+◌, ◌∷◌, ◌++◌, ℕ, List, [], length, take, get_or, ap, sym}
use Rattle.std.proofs.Common.{◌∙◌}
use Rattle.std.proofs.lemmas.List.{flat_map_more, take_more}
use Rattle.gltf_json_record.specs.Place.{Place}
use Rattle.gltf_validation.specs.declared.error.Error as validation
use Rattle.gltf_glb.specs.Texts.{fault_text, faults_text}

pub faults_more : (faults : List (List Place × validation.Error)) (i : ℕ)
    (fault : List Place × validation.Error)
    → i < length faults → fault ≡ get_or faults i fault
    → faults_text (take i faults) ++ fault_text fault ≡ faults_text (take (i + 1) faults)
faults_more faults i fault below is =
    flat_map_more fault_text [] (take i faults) fault
    ∙ ap (λ f. faults_text (take i faults ++ f ∷ [])) is
    ∙ sym (ap faults_text (take_more faults i fault below))
