-- The vertices at positions that are known in another form.
use Rattle.std.proofs.Common.{◌≡◌, ℕ, List, [], ◌∷◌, Some, ap, ◌∙◌}
use Rattle.std.specs.Prelude.{slice_index}

two_equal : (x y a b : ℕ) → x ≡ a → y ≡ b → Some (a ∷ b ∷ []) ≡ Some (x ∷ y ∷ [])
two_equal x y a b first second = cc

three_equal : (x y z a b c : ℕ) → x ≡ a → y ≡ b → z ≡ c
    → Some (a ∷ b ∷ c ∷ []) ≡ Some (x ∷ y ∷ z ∷ [])
three_equal x y z a b c first second third = cc

pub two_at : (v : List ℕ) (p q : ℕ × ℕ) (x y : ℕ) → p ≡ q
    → x ≡ slice_index v p.0 → y ≡ slice_index v p.1
    → Some (slice_index v q.0 ∷ slice_index v q.1 ∷ []) ≡ Some (x ∷ y ∷ [])
two_at v p q x y same first second =
    two_equal x y _ _ (first ∙ ap (λ (r : ℕ × ℕ). slice_index v r.0) same)
    (second ∙ ap (λ (r : ℕ × ℕ). slice_index v r.1) same)

pub three_at : (v : List ℕ) (p q : ℕ × ℕ × ℕ) (x y z : ℕ) → p ≡ q
    → x ≡ slice_index v p.0 → y ≡ slice_index v p.1 → z ≡ slice_index v p.2
    → Some (slice_index v q.0 ∷ slice_index v q.1 ∷ slice_index v q.2 ∷ [])
    ≡ Some (x ∷ y ∷ z ∷ [])
three_at v p q x y z same first second third =
    three_equal x y z _ _ _ (first ∙ ap (λ (r : ℕ × ℕ × ℕ). slice_index v r.0) same)
    (second ∙ ap (λ (r : ℕ × ℕ × ℕ). slice_index v r.1) same)
    (third ∙ ap (λ (r : ℕ × ℕ × ℕ). slice_index v r.2) same)
