-- The steps of a path that is as long as that of a required name.
use Rattle.std.proofs.Common.{◌≡◌, ◌<◌, ◌≤◌, ℕ, List, [], ◌∷◌, length, map, Some, None}
use Rattle.std.proofs.Common.{if◌then◌else◌, slice_index_or, Bor, sym, ap, ap₂, ◌∙◌, arith}
use Rattle.std.specs.Prelude.{bytes_eq, codes}
use Rattle.gltf_json_record.specs.Place.{Place, place_of}
use Rattle.gltf_json_record.specs.declared.path.Step.{Step}
use Rattle.gltf_json_record.specs.declared.path.Step.TheVariants.{Member, Item}
use Rattle.gltf_options.specs.Broken.{required_index}

both_of : (steps : List Step) (a b : Step) → 2 ≤ length steps → length steps < 3
    → a ≡ slice_index_or steps 0 a → b ≡ slice_index_or steps 1 b → steps ≡ a ∷ b ∷ []
both_of [] a b long short first second = absurd (omega arith)
both_of (x ∷ []) a b long short first second = absurd (omega arith)
both_of (x ∷ y ∷ []) a b long short first second =
    ap₂ (λ (u v : Step). u ∷ v ∷ []) (sym first) (sym second)
both_of (x ∷ y ∷ z ∷ steps) a b long short first second = absurd (omega arith)

-- an element of a member is a required name where that is the member
pub index_of : (path : List Place) (steps : List Step) (a b : Step) (member : Bor (List ℕ))
    (index : ℕ) → map place_of steps ≡ path → 2 ≤ length steps → length steps < 3
    → a ≡ slice_index_or steps 0 a → b ≡ slice_index_or steps 1 b → a ≡ Member member
    → b ≡ Item index → required_index path
    ≡ (if bytes_eq member.now (codes "extensionsRequired") then Some index else None)
index_of path steps a b member index is long short first second named numbered =
    let two : steps ≡ Member member ∷ Item index ∷ [] =
    both_of steps a b long short first second
    ∙ ap₂ (λ (u v : Step). u ∷ v ∷ []) named numbered in
    ap required_index (sym is ∙ ap (map place_of) two)
