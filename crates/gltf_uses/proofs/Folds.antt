-- A walk over uses adds each index that they hold, in order.
use Rattle.std.proofs.Common.{◌≡◌, ℕ, List, [], ◌∷◌, ◌++◌, refl, sym, ap, ◌∙◌}
use Rattle.gltf_json_record.specs.Place.{Place}
use Rattle.gltf_uses.specs.declared.kind.Kind.{Kind}
use Rattle.gltf_uses.specs.Uses.{Uses, Nothing, Use, At, Both, Held, held_at, after_uses}

module _ {S : Type 0} (add : S → List Place → Kind → ℕ → S) where
  -- what is left once each has been added
  abbrev pub after_each : S → List Held → S
  after_each s [] = s
  after_each s (h ∷ hs) = after_each (add s h.path h.kind h.index) hs

  after_each-append : (s : S) (xs ys : List Held)
      → after_each s (xs ++ ys) ≡ after_each (after_each s xs) ys
  after_each-append s [] ys = refl
  after_each-append s (x ∷ xs) ys = after_each-append (add s x.path x.kind x.index) xs ys

  pub after_uses-each : (s : S) (path : List Place) (t : Uses)
      → after_uses add s path t ≡ after_each s (held_at path t)
  after_uses-each s path Nothing = refl
  after_uses-each s path (Use kind i) = refl
  after_uses-each s path (At step t) = after_uses-each s (path ++ step ∷ []) t
  after_uses-each s path (Both t u) =
      after_uses-each (after_uses add s path t) path u
      ∙ ap (λ z. after_each z (held_at path u)) (after_uses-each s path t)
      ∙ sym (after_each-append s (held_at path t) (held_at path u))
