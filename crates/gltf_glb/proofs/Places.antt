-- Where a blob stands.
use Rattle.std.proofs.Common.{◌≡◌, ℕ, ◌+◌, ◌-◌, ◌≤◌, List, ◌++◌, length, take, drop}
use Rattle.std.proofs.Common.{Option, Some, None}
use Rattle.std.proofs.Common.{Ok, sym, subst, ap, ◌∙◌, append_assoc, arith, length-append}
use Rattle.std.specs.Prelude.{IfSome}
use Rattle.std.proofs.lemmas.List.{take-append-drop, length-take-le}
use Rattle.std.proofs.Math.Seq.{take-append_seam, drop-append_seam}
use Rattle.gltf_glb.specs.declared.binary.reading.Blob.{Blob}
use Rattle.gltf_glb.specs.Bytes.{word, bin_tag, chunk}
use Rattle.gltf_glb.specs.Reading.{IsReadingOf}
use Rattle.gltf_glb.specs.Steps.{bytes_of_blob, StandsIn}

-- in a chunk that begins the bytes
pub stands_in_chunk : (left : List ℕ) (blob : Blob)
    → left ≡ chunk bin_tag blob.contents.now ++ blob.behind.now → StandsIn left blob
stands_in_chunk left blob is =
    let size : List ℕ = word (length blob.contents.now) in (
      size ++ bin_tag,
      is ∙ append_assoc size (bin_tag ++ blob.contents.now) blob.behind.now
          ∙ ap (λ (t : List ℕ). size ++ t)
          (append_assoc bin_tag blob.contents.now blob.behind.now)
          ∙ sym (append_assoc size bin_tag (blob.contents.now ++ blob.behind.now)),
    )

-- in bytes that end in those where it stands
pub stands_behind : (bytes front left : List ℕ) (blob : Blob) → bytes ≡ front ++ left
    → StandsIn left blob → StandsIn bytes blob
stands_behind bytes front left blob is (before, there) = (
  front ++ before,
  is ∙ ap (λ (t : List ℕ). front ++ t) there
      ∙ sym (append_assoc front before (blob.contents.now ++ blob.behind.now)),
)

pub found_behind : (bytes front left : List ℕ) (blob : Option Blob) → bytes ≡ front ++ left
    → IfSome blob (StandsIn left) → IfSome blob (StandsIn bytes)
found_behind bytes front left None is found = tt
found_behind bytes front left (Some blob) is found =
    stands_behind bytes front left blob is found

-- the blob begins at the declared length less its own and that of what follows it
pub place_of : (bytes : List ℕ) (total : ℕ) (blob : Blob) → total ≤ length bytes
    → StandsIn (take total bytes) blob
    → (length blob.behind.now + length blob.contents.now ≤ total)
    × (take (length blob.contents.now)
    (drop (total - length blob.behind.now - length blob.contents.now) bytes)
    ≡ blob.contents.now)
place_of bytes total blob fits (front, is) =
    let contents : List ℕ = blob.contents.now in
    let behind : List ℕ = blob.behind.now in
    let size : total ≡ length front + (length contents + length behind) =
    sym (length-take-le total bytes fits) ∙ ap length is
    ∙ length-append front (contents ++ behind)
    ∙ ap (λ (n : ℕ). length front + n) (length-append contents behind) in
    let at : total - length behind - length contents ≡ length front = omega arith in
    let all : bytes ≡ front ++ (contents ++ (behind ++ drop total bytes)) =
    sym (take-append-drop total bytes) ∙ ap (λ (t : List ℕ). t ++ drop total bytes) is
    ∙ append_assoc front (contents ++ behind) (drop total bytes)
    ∙ ap (λ (t : List ℕ). front ++ t) (append_assoc contents behind (drop total bytes)) in (
      omega arith,
      ap (λ (n : ℕ). take (length contents) (drop n bytes)) at
          ∙ ap (λ (t : List ℕ). take (length contents) (drop (length front) t)) all
          ∙ ap (take (length contents))
          (drop-append_seam front (contents ++ (behind ++ drop total bytes)))
          ∙ take-append_seam contents (behind ++ drop total bytes),
    )

-- the one reading, of the same parts under other names
pub read_as : (read bytes json copy cut : List ℕ) (blob : Option Blob) (found : Blob)
    → read ≡ bytes → copy ≡ json → blob ≡ Some found → cut ≡ found.contents.now
    → IsReadingOf read (Ok (json, bytes_of_blob blob)) → IsReadingOf bytes (Ok (copy, Some cut))
read_as read bytes json copy cut blob found same copied is cut_out reading =
    subst (λ (b : List ℕ). IsReadingOf b (Ok (copy, Some cut))) same
    (subst (λ (j : List ℕ). IsReadingOf read (Ok (j, Some cut))) (sym copied)
    (subst (λ (m : Option (List ℕ)). IsReadingOf read (Ok (json, m)))
    (ap bytes_of_blob is ∙ ap Some (sym cut_out)) reading))
