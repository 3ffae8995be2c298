-- Laws of the bytes of all buffers in one.
use Rattle.std.proofs.Common.{◌≡◌, ℕ, zero, suc, ◌+◌, ◌-◌, ◌%◌, List, [], ◌∷◌, ◌++◌, length}
use Rattle.std.proofs.Common.{Some, refl, replicate, ap}
use Rattle.std.proofs.Common.{◌∙◌, sym, arith, length-append, append_assoc}
use Rattle.std.proofs.lemmas.List.{append-nil, length-replicate}
use Rattle.std.specs.Prelude.{slice_get}
use Rattle.gltf_edit.specs.declared.span.Span.{Span}
use Rattle.gltf_edit.specs.Joined.{filled, joined, span, spans_from}

pub length_filled : (bytes : List ℕ)
    → length (filled bytes) ≡ length bytes + (8 - length bytes % 8) % 8
unfolding filled
length_filled bytes =
    length-append bytes (replicate ((8 - length bytes % 8) % 8) 0)
    ∙ ap (λ (n : ℕ). length bytes + n) (length-replicate ((8 - length bytes % 8) % 8) 0)

-- one more
pub joined_last : (all : List (List ℕ)) (bytes : List ℕ)
    → joined (all ++ bytes ∷ []) ≡ joined all ++ filled bytes
unfolding joined
joined_last [] bytes = append-nil (filled bytes)
joined_last (first ∷ all) bytes =
    ap (λ (s : List ℕ). filled first ++ s) (joined_last all bytes)
    ∙ sym (append_assoc (filled first) (joined all) (filled bytes))

pub spans_last : (p : ℕ) (all : List (List ℕ)) (bytes : List ℕ)
    → spans_from p (all ++ bytes ∷ [])
    ≡ spans_from p all ++ span (p + length (joined all)) (length bytes) ∷ []
unfolding joined spans_from
spans_last p [] bytes = ap (λ (n : ℕ). span n (length bytes) ∷ []) (omega arith)
spans_last p (first ∷ all) bytes =
    let long = length-append (filled first) (joined all) in
    let place : p + length (filled first) + length (joined all)
    ≡ p + length (filled first ++ joined all) = omega arith in
    ap (λ s. span p (length first) ∷ s) (spans_last (p + length (filled first)) all bytes
    ∙ ap (λ (n : ℕ). spans_from (p + length (filled first)) all ++ span n (length bytes) ∷ [])
    place)

-- where the bytes of buffer i stand among all
pub record Stands (p : ℕ) (buffers : List (List ℕ)) (i : ℕ) (s : Span) : Type 0 where
  pub bytes : List ℕ
  pub front : List ℕ
  pub back : List ℕ
  pub there : slice_get buffers i ≡ Some bytes
  pub whole : joined buffers ≡ front ++ (bytes ++ back)
  pub place : s.place ≡ p + length front
  pub long : s.length ≡ length bytes

pub stands : (p : ℕ) (buffers : List (List ℕ)) (i : ℕ) (s : Span)
    → slice_get (spans_from p buffers) i ≡ Some s → Stands p buffers i s
unfolding joined spans_from filled
stands p [] i s there = cc
stands p (first ∷ buffers) zero s there =
    let same : span p (length first) ≡ s = cc in
    record {
      bytes = first;
      front = [];
      back = replicate ((8 - length first % 8) % 8) 0 ++ joined buffers;
      there = refl;
      whole = append_assoc first _ (joined buffers);
      place = sym (ap (λ s. s.place) same) ∙ omega arith;
      long = sym (ap (λ s. s.length) same);
    }
stands p (first ∷ buffers) (suc i) s there =
    let later = stands (p + length (filled first)) buffers i s there in
    let more = length-append (filled first) later.front in
    record {
      bytes = later.bytes;
      front = filled first ++ later.front;
      back = later.back;
      there = later.there;
      whole =
          ap (λ (xs : List ℕ). filled first ++ xs) later.whole
          ∙ sym (append_assoc (filled first) later.front (later.bytes ++ later.back));
      place = later.place ∙ omega arith;
      long = later.long;
    }

-- the length of all is a multiple of eight
pub joined_whole : (buffers : List (List ℕ)) → length (joined buffers) % 8 ≡ 0
unfolding joined
joined_whole [] = refl
joined_whole (first ∷ buffers) =
    let whole = joined_whole buffers in
    let here = length_filled first in
    let both = length-append (filled first) (joined buffers) in
    omega arith
