-- The bytes of the buffers so far.
use Rattle.std.proofs.Common.{◌≡◌, ℕ, ◌+◌, ◌-◌, ◌%◌, ◌<◌, ◌^◌, List, [], ◌∷◌, ◌++◌, length, take}
use Rattle.std.proofs.Common.{get_or, refl, sym, ap, ◌∙◌, arith, add-one, length-append}
use Rattle.std.proofs.Common.{append_assoc}
use Rattle.std.proofs.Math.Seq.{take-suc}
use Rattle.std.proofs.lemmas.List.{map-append, append-nil}
use Rattle.gltf_buffers.specs.declared.data.Data.{Data}
use Rattle.gltf.specs.Shown.{bytes_of_each}
use Rattle.gltf_edit.specs.Joined.{filled, joined, span, spans_from}
use Rattle.gltf_edit.specs.JoinedLaws.{joined_last, spans_last, length_filled}
use Rattle.gltf_edit.specs.declared.span.Span.{Span}

pub each_more : (buffers : List Data) (i : ℕ) (b : Data) → i < length buffers
    → b ≡ get_or buffers i b
    → bytes_of_each (take (i + 1) buffers) ≡ bytes_of_each (take i buffers) ++ b.0.items ∷ []
each_more buffers i b h is =
    ap (λ (n : ℕ). bytes_of_each (take n buffers)) (add-one i)
    ∙ ap bytes_of_each (take-suc buffers i b h)
    ∙ map-append (λ (d : Data). d.0.items) (take i buffers) (get_or buffers i b ∷ [])
    ∙ ap (λ (d : Data). bytes_of_each (take i buffers) ++ d.0.items ∷ []) (sym is)

-- ---- where they stand

pub record IsSoFar (all : List (List ℕ)) (total : ℕ) (spans : List Span) : Type 0 where
  pub count : total ≡ length (joined all)
  pub stand : spans ≡ spans_from 0 all
  pub short : total < 2 ^ 32

pub start : (spans : List Span) → spans ≡ [] → IsSoFar [] 0 spans
unfolding joined spans_from
start spans none = record { count = refl; stand = none; short = omega arith }

pub go_on : (all : List (List ℕ)) (b : List ℕ) (total after n : ℕ)
    (spans spans_after : List Span) → IsSoFar all total spans → n ≡ length b
    → after ≡ total + (n + (8 - n % 8) % 8)
    → spans_after ≡ spans ++ span total n ∷ [] → after < 2 ^ 32
    → IsSoFar (all ++ b ∷ []) after spans_after
go_on all b total after n spans spans_after far long more stands short = record {
  count =
      let here = length_filled b in
      let both = length-append (joined all) (filled b) in
      let last : length (joined (all ++ b ∷ [])) ≡ length (joined all ++ filled b) =
      ap (λ (xs : List ℕ). length xs) (joined_last all b) in
      let so_far = far.count in
      omega arith;
  stand =
      stands ∙ ap (λ (xs : List Span). xs ++ span total n ∷ []) far.stand
      ∙ ap (λ (p : ℕ). spans_from 0 all ++ span p n ∷ []) (far.count ∙ omega arith)
      ∙ ap (λ (l : ℕ). spans_from 0 all ++ span (0 + length (joined all)) l ∷ []) long
      ∙ sym (spans_last 0 all b);
  short = short;
}

-- ---- one after the other

pub none_joined : (out : List ℕ) → out ≡ out ++ joined []
unfolding joined
none_joined out = sym (append-nil out)

pub one_joined : (buffers : List Data) (i : ℕ) (b : Data) (old out after : List ℕ)
    → i < length buffers → b ≡ get_or buffers i b
    → out ≡ old ++ joined (bytes_of_each (take i buffers)) → after ≡ out ++ filled b.0.items
    → after ≡ old ++ joined (bytes_of_each (take (i + 1) buffers))
one_joined buffers i b old out after h is far more =
    let before = bytes_of_each (take i buffers) in
    more ∙ ap (λ (xs : List ℕ). xs ++ filled b.0.items) far
    ∙ append_assoc old (joined before) (filled b.0.items)
    ∙ ap (λ (xs : List ℕ). old ++ xs) (sym (joined_last before b.0.items))
    ∙ ap (λ (bs : List (List ℕ)). old ++ joined bs) (sym (each_more buffers i b h is))
