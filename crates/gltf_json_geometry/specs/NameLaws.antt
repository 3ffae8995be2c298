-- A name is that of one attribute at most.
use Rattle.std.specs.Prelude.{◌≡◌, ◌≢◌, ◌<◌, ◌^◌, ℕ, List, [], ◌∷◌, ◌++◌, nat_eq, nat_lt, IsTrue}
use Rattle.std.specs.Prelude.{Bool, true, if◌then◌else◌, codes}
use Rattle.std.proofs.Common.{sym, ap, ◌∙◌, refl, drop, get_or, arith}
use Rattle.std.proofs.lemmas.Fmt.{decimal_injective}
use Rattle.std.proofs.lemmas.Bool.{ltb-true}
use Rattle.std.proofs.lemmas.Map.Lookups.{exact_bytes}
use Rattle.std.specs.Cmp.{IsTotalOrder}
use Rattle.std.specs.Cmp.Lexicographic.{on_texts}
use Rattle.std.specs.declared.cmp.Ordering.TheVariants.{Equal}
use Rattle.std.specs.Fmt.{decimal}
use Rattle.gltf_json_geometry.specs.Semantics.{semantic_name, is_numbered, order_key, semantic_cmp}
use Rattle.gltf_json_geometry.specs.declared.semantic.Semantic.{Semantic}
use Rattle.gltf_json_geometry.specs.declared.semantic.Semantic.TheVariants.{Extras, Positions}
use Rattle.gltf_json_geometry.specs.declared.semantic.Semantic.TheVariants.{Normals, Tangents}
use Rattle.gltf_json_geometry.specs.declared.semantic.Semantic.TheVariants.{Colors, TexCoords}
use Rattle.gltf_json_geometry.specs.declared.semantic.Semantic.TheVariants.{Joints, Weights}

-- the kind, by the first letters
kind_told : List ℕ → ℕ
kind_told name =
    if nat_eq (get_or name 0 0) 95 then 0
    else if nat_eq (get_or name 0 0) 80 then 1
    else if nat_eq (get_or name 0 0) 78 then 2
    else if nat_eq (get_or name 1 0) 65 then 3
    else if nat_eq (get_or name 0 0) 67 then 4
    else if nat_eq (get_or name 0 0) 84 then 5
    else if nat_eq (get_or name 0 0) 74 then 6
    else 7

told : (s : Semantic) → kind_told (semantic_name s) ≡ get_or (order_key s) 0 0
unfolding kind_told
told (Extras name) = refl
told Positions = refl
told Normals = refl
told Tangents = refl
told (Colors set) = refl
told (TexCoords set) = refl
told (Joints set) = refl
told (Weights set) = refl

same_kind : (s t : Semantic) → semantic_name s ≡ semantic_name t
    → get_or (order_key s) 0 0 ≡ get_or (order_key t) 0 0
same_kind s t same = sym (told s) ∙ ap kind_told same ∙ told t

two_kinds : (s t : Semantic) → (get_or (order_key s) 0 0 ≢ get_or (order_key t) 0 0)
    → semantic_name s ≡ semantic_name t → ⊥
two_kinds s t other same = other (same_kind s t same)

same_set : (k a b : ℕ) → IsTrue (nat_lt a (2 ^ 32)) → IsTrue (nat_lt b (2 ^ 32))
    → decimal a ≡ decimal b → ◌≡◌ {A = List ℕ} (k ∷ a ∷ []) (k ∷ b ∷ [])
same_set k a b x y same =
    let small : a < 2 ^ 32 = ltb-true a (2 ^ 32) x in
    let little : b < 2 ^ 32 = ltb-true b (2 ^ 32) y in
    ap (λ n. k ∷ n ∷ []) (decimal_injective a b (omega arith) (omega arith) same)

-- two attributes with one name stand at the same place
pub same_key : (s t : Semantic) → IsTrue (is_numbered s) → IsTrue (is_numbered t)
    → semantic_name s ≡ semantic_name t → order_key s ≡ order_key t
same_key (Extras a) (Extras b) x y same = cc same
same_key Positions Positions x y same = refl
same_key Normals Normals x y same = refl
same_key Tangents Tangents x y same = refl
same_key (Colors a) (Colors b) x y same = same_set 4 a b x y (cc same)
same_key (TexCoords a) (TexCoords b) x y same = same_set 5 a b x y (cc same)
same_key (Joints a) (Joints b) x y same = same_set 6 a b x y (cc same)
same_key (Weights a) (Weights b) x y same = same_set 7 a b x y (cc same)
same_key s t x y same = absurd (two_kinds s t (λ e. omega (arith, e)) same)

-- a name by the place of its attribute
name_at : List ℕ → List ℕ
name_at key =
    if nat_eq (get_or key 0 0) 0 then codes "_" ++ drop 1 key
    else if nat_eq (get_or key 0 0) 1 then codes "POSITION"
    else if nat_eq (get_or key 0 0) 2 then codes "NORMAL"
    else if nat_eq (get_or key 0 0) 3 then codes "TANGENT"
    else if nat_eq (get_or key 0 0) 4 then codes "COLOR_" ++ decimal (get_or key 1 0)
    else if nat_eq (get_or key 0 0) 5 then codes "TEXCOORD_" ++ decimal (get_or key 1 0)
    else if nat_eq (get_or key 0 0) 6 then codes "JOINTS_" ++ decimal (get_or key 1 0)
    else codes "WEIGHTS_" ++ decimal (get_or key 1 0)

named : (s : Semantic) → semantic_name s ≡ name_at (order_key s)
unfolding name_at
named (Extras name) = refl
named Positions = refl
named Normals = refl
named Tangents = refl
named (Colors set) = refl
named (TexCoords set) = refl
named (Joints set) = refl
named (Weights set) = refl

-- two attributes at the same place have one name
pub same_name : (s t : Semantic) → order_key s ≡ order_key t → semantic_name s ≡ semantic_name t
same_name s t same = named s ∙ ap name_at same ∙ sym (named t)

pub order_total : IsTotalOrder semantic_cmp
order_total = on_texts order_key

pub Equal-same_key : (s t : Semantic) → semantic_cmp s t ≡ Equal → order_key s ≡ order_key t
Equal-same_key s t tie = exact_bytes (order_key s) (order_key t) tie

-- whether the number of the set at a place has 32 bits
numbered_at : List ℕ → Bool
numbered_at key = if nat_lt (get_or key 0 0) 4 then true else nat_lt (get_or key 1 0) (2 ^ 32)

numbered : (s : Semantic) → is_numbered s ≡ numbered_at (order_key s)
unfolding numbered_at
numbered (Extras name) = refl
numbered Positions = refl
numbered Normals = refl
numbered Tangents = refl
numbered (Colors set) = refl
numbered (TexCoords set) = refl
numbered (Joints set) = refl
numbered (Weights set) = refl

pub same_numbered : (s t : Semantic) → order_key s ≡ order_key t → is_numbered s ≡ is_numbered t
same_numbered s t same = numbered s ∙ ap numbered_at same ∙ sym (numbered t)
