-- What is read of bytes that stand among others is what is read of them alone.
use Rattle.std.proofs.Common.{◌≡◌, ℕ, zero, suc, ◌+◌, ◌<◌, ◌≤◌, List, ◌∷◌, ◌++◌}
use Rattle.std.proofs.Common.{length, map, drop, refl, sym, ap, ◌∙◌, arith, length-append}
use Rattle.std.proofs.Common.{length-drop}
use Rattle.std.proofs.Math.Seq.{drop-append-add}
use Rattle.std.proofs.lemmas.List.{take-append-le, drop-append-le}
use Rattle.std.specs.List.{range_with_len}
use Rattle.gltf_items.specs.Reading.{ReadsFront}

pub front_alone : {X : Type 0} (n : ℕ) (value : List ℕ → X) → ReadsFront n value
    → (bytes more : List ℕ) → n ≤ length bytes → value (bytes ++ more) ≡ value bytes
front_alone n value front bytes more h =
    let long = length-append bytes more in
    sym (front (bytes ++ more) (omega arith))
    ∙ ap value (take-append-le n bytes more h)
    ∙ front bytes h

-- from place a of the bytes on, so far from their end that the value lies in them
pub value_among : {X : Type 0} (n : ℕ) (value : List ℕ → X) → ReadsFront n value
    → (front bytes back : List ℕ) (a : ℕ) → a + n ≤ length bytes
    → value (drop (length front + a) (front ++ (bytes ++ back))) ≡ value (drop a bytes)
value_among n value reads front bytes back a h =
    let within : a ≤ length bytes = omega arith in
    let left = length-drop a bytes in
    ap value (drop-append-add front (bytes ++ back) a)
    ∙ ap value (drop-append-le a bytes back within)
    ∙ front_alone n value reads (drop a bytes) back (omega arith)

-- two functions that agree below a number have the same list
pub same_below : {X : Type 0} (f g : ℕ → X) (start n : ℕ)
    → ((i : ℕ) → i < start + n → f i ≡ g i)
    → map f (range_with_len start n) ≡ map g (range_with_len start n)
same_below f g start zero same = refl
same_below f g start (suc n) same =
    let later = same_below f g (start + 1) n (λ i h. same i (omega arith)) in
    let here : f start ≡ g start = same start (omega arith) in
    ap (λ x. x ∷ map f (range_with_len (start + 1) n)) here ∙ ap (λ xs. g start ∷ xs) later
