-- Steps over attributes.
use Rattle.std.proofs.Common.{◌≡◌, ℕ, zero, suc, ◌+◌, ◌≤◌, List, [], ◌∷◌, drop, length, slice_get}
use Rattle.std.proofs.Common.{Option, Some, None, refl, sym, ap, ◌∙◌, subst, arith}
use Rattle.std.proofs.lemmas.List.{drop-drop}
use Rattle.std.proofs.lemmas.Option.{slice_get_past}
use Rattle.std.proofs.Math.ListN.{drop_of_length-le}
use Rattle.std.specs.Borrow.{Bor}
use Rattle.gltf_json_geometry.specs.declared.semantic.Semantic.{Semantic}
use Rattle.gltf_rules.specs.declared.records.Records.{Ghosts}
use Rattle.gltf_handles.specs.declared.accessor.Accessor.{Accessor}
use Rattle.gltf_scene.specs.Attributes.{AttributesLeft, IsAttribute, IsAttributeAt}
use Rattle.gltf_scene.specs.Attributes.{NthAttribute, AttributeByNext}

slice_get-drop : {A : Type 0} (p n : ℕ) (xs : List A)
    → slice_get (drop p xs) n ≡ slice_get xs (p + n)
slice_get-drop zero n xs = let none : n ≡ 0 + n = omega arith in ap (slice_get xs) none
slice_get-drop (suc p) n [] = refl
slice_get-drop (suc p) n (x ∷ xs) =
    let sum : suc (p + n) ≡ suc p + n = omega arith in
    slice_get-drop p n xs ∙ ap (slice_get (x ∷ xs)) sum

-- past the end there is nothing
past_end : {A : Type 0} (xs : List A) (i : ℕ) → slice_get xs i ≡ None → length xs ≤ i
past_end [] i none = omega arith
past_end (x ∷ xs) zero none = absurd cc
past_end (x ∷ xs) (suc i) none = let shorter : length xs ≤ i = past_end xs i none in omega arith

module _ {D : Type 0} {G : Ghosts D} where
  -- what is given at place n after p entries is given at place p + n
  at_behind : (old between : AttributesLeft) (p n : ℕ)
      (given : Option (Bor Semantic × Accessor D G))
      → between.document ≡ old.document → between.entries ≡ drop p old.entries
      → IsAttributeAt between n given → IsAttributeAt old (p + n) given
  at_behind old between p n None document entries h =
      sym (slice_get-drop p n old.entries) ∙ ap (λ es. slice_get es n) (sym entries) ∙ h
  at_behind old between p n (Some x) document entries h = (
    h.0,
    sym (slice_get-drop p n old.entries) ∙ ap (λ es. slice_get es n) (sym entries) ∙ h.1,
    subst (λ r. IsAttribute r h.0 x) document h.2,
  )

  pub behind : (old between new : AttributesLeft) (p n : ℕ)
      (given : Option (Bor Semantic × Accessor D G))
      → between.document ≡ old.document → between.entries ≡ drop p old.entries
      → NthAttribute between n given new → NthAttribute old (p + n) given new
  behind old between new p n given document entries h =
      let sum : p + (n + 1) ≡ p + n + 1 = omega arith in
      record {
        document = h.document ∙ document;
        entries =
            h.entries ∙ ap (drop (n + 1)) entries ∙ drop-drop (n + 1) p old.entries
            ∙ ap (λ k. drop k old.entries) sum;
        item = at_behind old between p n given document entries h.item;
      }

  -- where none is given, none is given at a later place
  pub none_behind : (old new : AttributesLeft) (i n : ℕ) → i ≤ n
      → NthAttribute {D = D} {G = G} old i None new → NthAttribute {D = D} {G = G} old n None new
  none_behind old new i n below h =
      let short : length old.entries ≤ i = past_end old.entries i h.item in
      let here : length old.entries ≤ i + 1 = omega (arith, short) in
      let there : length old.entries ≤ n + 1 = omega (arith, short, below) in
      let past : length old.entries ≤ n = omega (arith, short, below) in
      record {
        document = h.document;
        entries =
            h.entries ∙ drop_of_length-le old.entries here
            ∙ sym (drop_of_length-le old.entries there);
        item = slice_get_past old.entries n past;
      }

  pub nth_next : (old new : AttributesLeft) (n : ℕ) (given : Option (Bor Semantic × Accessor D G))
      → AttributeByNext old n given new → NthAttribute old n given new
  nth_next old new zero given h = h
  nth_next old new (suc n) given h =
      let sum : 1 + n ≡ suc n = omega arith in
      subst (λ k. NthAttribute old k given new) sum
      (behind old h.1 new 1 n given h.2.document h.2.entries (nth_next h.1 new n given h.3))
