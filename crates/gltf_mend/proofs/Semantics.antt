-- The names of attributes, as the definition has them and as the records do.
use Rattle.std.proofs.Common.{◌≡◌, ℕ, ◌<◌, ◌^◌, List, ◌++◌, Bool, true, false, ◌||◌, ◌&&◌, drop}
use Rattle.std.proofs.Common.{length, refl, sym, ap, subst, ◌∙◌, bytes_eq, codes, nat_lt, arith}
use Rattle.std.proofs.Common.{IsTrue, true≢false, Option, Some, None, IsNone, is_some}
use Rattle.std.specs.Prelude.{IfSome}
use Rattle.std.specs.Fmt.{decimal}
use Rattle.std.specs.Str.Parse.{AllDigits, digits_value}
use Rattle.std.proofs.lemmas.Bool.{ltb-true}
use Rattle.std.proofs.lemmas.Fmt.{digits_value-decimal}
use Rattle.std.proofs.lemmas.Slice.Eq.{bytes_eq-Decides}
use Rattle.std.proofs.lemmas.Str.Parse.{IsNumeralModel, numerals_by_value, tells_digits}
use Rattle.gltf_json_geometry.specs.Semantics.{Names, semantic_name, is_numbered}
use Rattle.gltf_json_geometry.specs.declared.semantic.Semantic.{Semantic}
use Rattle.gltf_json_geometry.specs.declared.semantic.Semantic.TheVariants.{Extras, Positions}
use Rattle.gltf_json_geometry.specs.declared.semantic.Semantic.TheVariants.{Normals, Tangents}
use Rattle.gltf_json_geometry.specs.declared.semantic.Semantic.TheVariants.{Colors, TexCoords}
use Rattle.gltf_json_geometry.specs.declared.semantic.Semantic.TheVariants.{Joints, Weights}
use Rattle.gltf_mend.specs.Attributes.{is_attribute, is_of_set, is_own, number_after}

own : IsNumeralModel (AllDigits 10) (digits_value 10)
own = numerals_by_value (AllDigits 10) tells_digits

-- ---- a name that an attribute has

small : (n : ℕ) → IsTrue (nat_lt n (2 ^ 32)) → n < 2 ^ 64
small n is =
    let below : n < 2 ^ 32 = ltb-true n (2 ^ 32) is in
    omega (arith, below)

both : (a b : Bool) → a ≡ true → b ≡ true → (a && b) ≡ true
both true b first second = second
both false b first second = absurd (true≢false (sym first))

of_set : (prefix : List ℕ) (n : ℕ) → drop (length prefix) (prefix ++ decimal n) ≡ decimal n
    → IsTrue (nat_lt n (2 ^ 32)) → is_of_set prefix (prefix ++ decimal n) ≡ true
of_set prefix n rest is =
    let name = prefix ++ decimal n in
    let value : n ≡ number_after prefix name =
    sym (ap (digits_value 10) rest ∙ digits_value-decimal own n (small n is)) in
    subst (λ (k : ℕ). (bytes_eq name (prefix ++ decimal k) && nat_lt k (2 ^ 32)) ≡ true) value
    (both (bytes_eq name name) (nat_lt n (2 ^ 32)) ((bytes_eq-Decides name name).1 refl) is)

first_true : (a b : Bool) → a ≡ true → (a || b) ≡ true
first_true true b is = refl
first_true false b is = absurd (true≢false (sym is))

known_name : (s : Semantic) → IsTrue (is_numbered s) → is_attribute (semantic_name s) ≡ true
known_name (Extras name) is = refl
known_name Positions is = refl
known_name Normals is = refl
known_name Tangents is = refl
known_name (Colors n) is =
    first_true _ _ (first_true _ _ (first_true _ _ (of_set (codes "COLOR_") n refl is)))
known_name (TexCoords n) is =
    first_true _ _ (first_true _ _ (of_set (codes "TEXCOORD_") n refl is))
known_name (Joints n) is = first_true _ _ (of_set (codes "JOINTS_") n refl is)
known_name (Weights n) is = of_set (codes "WEIGHTS_") n refl is

pub known : (s : Semantic) (name : List ℕ) → Names s name → is_attribute name ≡ true
known s name named = ap is_attribute (sym named.1) ∙ known_name s named.0

-- ---- one that no attribute has

never : (b : Bool) → (b ≡ true → ⊥) → b ≡ false
never true h = absurd (h refl)
never false h = refl

neither : (a b : Bool) → a ≡ false → b ≡ false → (a || b) ≡ false
neither true b first second = absurd (true≢false first)
neither false b first second = second

holds : (a b : Bool) → (a && b) ≡ true → (a ≡ true) × (b ≡ true)
holds true true is = (refl, refl)
holds true false is = absurd (true≢false (sym is))
holds false b is = absurd (true≢false (sym is))

module _ (name : List ℕ) (none : (s : Semantic) → Names s name → ⊥) where
  other : (s : Semantic) → IsTrue (is_numbered s) → bytes_eq name (semantic_name s) ≡ false
  other s numbered = never _
      (λ same. none s (numbered, sym ((bytes_eq-Decides name (semantic_name s)).0 same)))

  other_set : (prefix : List ℕ) (of : ℕ → Semantic)
      → ((n : ℕ) → IsTrue (nat_lt n (2 ^ 32)) → Names (of n) (prefix ++ decimal n))
      → is_of_set prefix name ≡ false
  other_set prefix of names = never _ (λ is.
      let n = number_after prefix name in
      let parts = holds (bytes_eq name (prefix ++ decimal n)) (nat_lt n (2 ^ 32)) is in
      let same : name ≡ prefix ++ decimal n =
      (bytes_eq-Decides name (prefix ++ decimal n)).0 parts.0 in
      let named = names n parts.1 in
      none (of n) (named.0, named.1 ∙ sym same))

  pub unknown : is_own name ≡ false → is_attribute name ≡ false
  unknown other_own =
      neither _ _ (neither _ _ (neither _ _ (neither _ _ (neither _ _ (neither _ _
      (neither _ _ other_own (other Positions refl)) (other Normals refl)) (other Tangents refl))
      (other_set (codes "COLOR_") Colors (λ n is. (is, refl))))
      (other_set (codes "TEXCOORD_") TexCoords (λ n is. (is, refl))))
      (other_set (codes "JOINTS_") Joints (λ n is. (is, refl))))
      (other_set (codes "WEIGHTS_") Weights (λ n is. (is, refl)))

-- ---- as the records find it

pub by_name : (name : List ℕ) (found : Option Semantic) → IfSome found (λ s. Names s name)
    → (IsNone found → (s : Semantic) → Names s name → ⊥) → is_own name ≡ false
    → is_some found ≡ is_attribute name
by_name name (Some s) names none other_own = sym (known s name names)
by_name name None names none other_own = sym (unknown name (none refl) other_own)
