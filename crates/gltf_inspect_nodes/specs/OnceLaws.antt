-- The parts of a list that names no node twice.
use Rattle.std.proofs.Common.{◌≡◌, ℕ, false, List, ◌∷◌, ◌++◌, sym, ◌∙◌, ap, append_assoc}
use Rattle.gltf_inspect_nodes.specs.Named.{is_named}

-- no number below count stands there twice, or was seen before
abbrev pub OnceAfter : ℕ → List ℕ → List ℕ → Type 0
OnceAfter count seen ks =
    (before after : List ℕ) (k : ℕ) → ks ≡ before ++ (k ∷ after)
    → is_named count (seen ++ before) k ≡ false

-- so it is with the first part
pub first_part : (count : ℕ) (seen xs ys : List ℕ) → OnceAfter count seen (xs ++ ys)
    → OnceAfter count seen xs
first_part count seen xs ys h before after k e =
    h before (after ++ ys) k (ap (λ zs. zs ++ ys) e ∙ append_assoc before (k ∷ after) ys)

-- and with the last one, once the first was seen
pub last_part : (count : ℕ) (seen xs ys : List ℕ) → OnceAfter count seen (xs ++ ys)
    → OnceAfter count (seen ++ xs) ys
last_part count seen xs ys h before after k e =
    ap (λ zs. is_named count zs k) (append_assoc seen xs before)
    ∙ h (xs ++ before) after k
    (ap (λ zs. xs ++ zs) e ∙ sym (append_assoc xs before (k ∷ after)))
