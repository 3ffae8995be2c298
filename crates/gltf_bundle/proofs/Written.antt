-- A container whose blob is joined where it stands: for the contracts of `joining`.
use Rattle.std.proofs.Common.{◌≡◌, ℕ, zero, suc, ◌+◌, ◌-◌, ◌%◌, ◌<◌, List, [], ◌∷◌, ◌++◌, length}
use Rattle.std.proofs.Common.{take, replicate, Some, refl, sym, ap, ◌∙◌, arith, append_assoc}
use Rattle.std.proofs.Common.{length-append}
use Rattle.gltf_buffers.specs.declared.data.Data.{Data}
use Rattle.gltf.specs.Shown.{bytes_of_each}
use Rattle.gltf_edit.specs.Joined.{filled, joined}
use Rattle.gltf_edit.specs.JoinedLaws.{joined_whole}
use Rattle.gltf_glb.specs.Bytes.{json_tag, bin_tag, magic, word, headed, chunk, padded}
use Rattle.gltf_glb.specs.FillingLaws.{length_padded, padded_whole}
use Rattle.gltf_glb.specs.Written.{json_chunk, total_of, container_bytes}
use Rattle.gltf_bundle.specs.Bundle.{blob_of}

-- ---- lengths

length_word : (n : ℕ) → length (word n) ≡ 4
unfolding word
length_word n = refl

length_chunk : (tag contents : List ℕ) → length tag ≡ 4
    → length (chunk tag contents) ≡ 8 + length contents
length_chunk tag contents h =
    omega (
      arith,
      length-append (word (length contents)) (tag ++ contents),
      length_word (length contents),
      length-append tag contents,
    )

pub whole_length : (json bytes : List ℕ) → length bytes % 4 ≡ 0
    → total_of json (Some bytes) ≡ 28 + length json + (4 - length json % 4) % 4 + length bytes
whole_length json bytes whole =
    let sum = length-append (chunk json_tag (padded 32 json)) (chunk bin_tag (padded 0 bytes)) in
    let json_long = length_chunk json_tag (padded 32 json) refl in
    let bin_long = length_chunk bin_tag (padded 0 bytes) refl in
    let long = length_padded 32 json in
    let more = length_padded 0 bytes in omega arith

-- ---- fillings

pub zeros : (p : ℕ) → p < 8 → take {A = ℕ} p (0 ∷ 0 ∷ 0 ∷ 0 ∷ 0 ∷ 0 ∷ 0 ∷ []) ≡ replicate p 0
zeros zero h = refl
zeros (suc zero) h = refl
zeros (suc (suc zero)) h = refl
zeros (suc (suc (suc zero))) h = refl
zeros (suc (suc (suc (suc zero)))) h = refl
zeros (suc (suc (suc (suc (suc zero))))) h = refl
zeros (suc (suc (suc (suc (suc (suc zero)))))) h = refl
zeros (suc (suc (suc (suc (suc (suc (suc zero))))))) h = refl
zeros (suc (suc (suc (suc (suc (suc (suc (suc p)))))))) h = absurd (omega arith)

pub filled_pieces : (old bytes filling : List ℕ) (p : ℕ) → p ≡ (8 - length bytes % 8) % 8
    → filling ≡ take {A = ℕ} p (0 ∷ 0 ∷ 0 ∷ 0 ∷ 0 ∷ 0 ∷ 0 ∷ [])
    → (old ++ bytes) ++ filling ≡ old ++ filled bytes
unfolding filled
filled_pieces old bytes filling p is_p is_filling =
    let few : p < 8 = omega arith in
    let all : filling ≡ replicate ((8 - length bytes % 8) % 8) 0 =
    is_filling ∙ zeros p few ∙ ap (λ (n : ℕ). replicate n 0) is_p in
    ap (λ (t : List ℕ). (old ++ bytes) ++ t) all
    ∙ append_assoc old bytes (replicate ((8 - length bytes % 8) % 8) 0)

-- ---- the whole

pub joined_fours : (buffers : List (List ℕ)) → length (joined buffers) % 4 ≡ 0
joined_fours buffers = let eights = joined_whole buffers in omega arith

pub some_blob : (buffers : List Data) → 0 < length buffers
    → blob_of (bytes_of_each buffers) ≡ Some (joined (bytes_of_each buffers))
some_blob [] some = absurd (omega arith)
some_blob (b ∷ buffers) some = refl

-- a container that was written piece by piece
pub container_pieces : (json bytes : List ℕ) (whole count : ℕ) → length bytes % 4 ≡ 0
    → whole ≡ total_of json (Some bytes) → count ≡ length bytes
    → (((magic ++ (word 2 ++ word whole)) ++ json_chunk json) ++ (word count ++ bin_tag)) ++ bytes
    ≡ container_bytes json (Some bytes)
container_pieces json bytes whole count fours is_whole is_count =
    let same : padded 0 bytes ≡ bytes = padded_whole 0 bytes fours in
    let flat : (((magic ++ (word 2 ++ word (total_of json (Some bytes)))) ++ json_chunk json)
    ++ (word (length bytes) ++ bin_tag)) ++ bytes
    ≡ headed (total_of json (Some bytes)) (json_chunk json ++ chunk bin_tag bytes) =
    simp append_assoc in
    ap (λ (n : ℕ). (((magic ++ (word 2 ++ word n)) ++ json_chunk json) ++ (word count ++ bin_tag))
    ++ bytes) is_whole
    ∙ ap (λ (n : ℕ). (((magic ++ (word 2 ++ word (total_of json (Some bytes)))) ++ json_chunk json)
    ++ (word n ++ bin_tag)) ++ bytes) is_count
    ∙ flat
    ∙ ap (λ (t : List ℕ). headed (total_of json (Some bytes)) (json_chunk json ++ chunk bin_tag t))
    (sym same)
