-- Laws of contents that are filled up.
use Rattle.std.proofs.Common.{◌≡◌, ℕ, ◌+◌, ◌-◌, ◌%◌, List, ◌++◌, length, replicate, ap, ◌∙◌, arith}
use Rattle.std.proofs.Common.{length-append}
use Rattle.std.proofs.lemmas.List.{append-nil, length-replicate}
use Rattle.gltf_glb.specs.Bytes.{padded}

pub length_padded : (filler : ℕ) (contents : List ℕ)
    → length (padded filler contents) ≡ length contents + (4 - length contents % 4) % 4
length_padded filler contents =
    length-append contents (replicate ((4 - length contents % 4) % 4) filler)
    ∙ ap (λ (n : ℕ). length contents + n) (length-replicate ((4 - length contents % 4) % 4) filler)

-- what has a multiple of four already stays
pub padded_whole : (filler : ℕ) (xs : List ℕ) → length xs % 4 ≡ 0 → padded filler xs ≡ xs
padded_whole filler xs h =
    let none : (4 - length xs % 4) % 4 ≡ 0 = omega arith in
    ap (λ (n : ℕ). xs ++ replicate n filler) none ∙ append-nil xs

pub padded_once : (filler : ℕ) (xs : List ℕ) → padded filler (padded filler xs) ≡ padded filler xs
padded_once filler xs =
    let long = length_padded filler xs in
    padded_whole filler (padded filler xs) (omega arith)
