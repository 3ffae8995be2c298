-- The order that is derived for attributes is the stated one.
use Rattle.std.proofs.Common.{◌≡◌, ℕ, ◌∷◌, [], ◌&&◌, Bool, true, false, refl, subst, sym, ◌∙◌}
use Rattle.std.proofs.Common.{nat_eq, string_bytes}
use Rattle.std.proofs.Math.Path.{fun_ext}
use Rattle.std.specs.Ordering.{nat_cmp, ordering_then, is_eq}
use Rattle.std.specs.declared.cmp.Ordering.{Ordering}
use Rattle.std.specs.declared.cmp.Ordering.TheVariants.{Less, Equal, Greater}
use Rattle.gltf_json_geometry.specs.Semantics.{semantic_cmp}
use Rattle.gltf_json_geometry.specs.declared.semantic.Semantic.{Semantic}
use Rattle.gltf_json_geometry.specs.declared.semantic.Semantic.TheVariants.{Extras, Positions}
use Rattle.gltf_json_geometry.specs.declared.semantic.Semantic.TheVariants.{Normals, Tangents}
use Rattle.gltf_json_geometry.specs.declared.semantic.Semantic.TheVariants.{Colors, TexCoords}
use Rattle.gltf_json_geometry.specs.declared.semantic.Semantic.TheVariants.{Joints, Weights}
use Rattle.gltf_json_geometry.specs.contracts.semantic.SemanticOrd.TheImpl as ord
use Rattle.gltf_json_geometry.specs.contracts.semantic.SemanticPartialEq.TheImpl as same
use Rattle.std.proofs.lemmas.Map.Text.{is_eq-slice_cmp}

then_Equal : (r : Ordering) → r ≡ ordering_then r Equal
then_Equal Less = refl
then_Equal Equal = refl
then_Equal Greater = refl

derived_cmp : (s t : Semantic) → ord.ghosts.cmp s t ≡ semantic_cmp s t
derived_cmp (Extras a) (Extras b) = refl
derived_cmp (Extras a) t = refl
derived_cmp Positions Positions = refl
derived_cmp Positions t = refl
derived_cmp Normals Normals = refl
derived_cmp Normals t = refl
derived_cmp Tangents Tangents = refl
derived_cmp Tangents t = refl
derived_cmp (Colors a) (Colors b) = then_Equal (nat_cmp a b)
derived_cmp (Colors a) t = refl
derived_cmp (TexCoords a) (TexCoords b) = then_Equal (nat_cmp a b)
derived_cmp (TexCoords a) t = refl
derived_cmp (Joints a) (Joints b) = then_Equal (nat_cmp a b)
derived_cmp (Joints a) t = refl
derived_cmp (Weights a) (Weights b) = then_Equal (nat_cmp a b)
derived_cmp (Weights a) t = refl

pub derived_is : ord.ghosts.cmp ≡ semantic_cmp
derived_is = fun_ext λ s. fun_ext λ t. derived_cmp s t

-- what holds of the derived order holds of the stated one
pub stated : (P : (Semantic → Semantic → Ordering) → Type 0) → P ord.ghosts.cmp → P semantic_cmp
stated P holds = subst P derived_is holds

and_true : (b : Bool) → b ≡ (b && true)
and_true true = refl
and_true false = refl

tied_numbers : (a b : ℕ) → nat_eq a b ≡ is_eq (ordering_then (nat_cmp a b) Equal)
tied_numbers a b = and_true (nat_eq a b) ∙ sym (is_eq-slice_cmp (a ∷ []) (b ∷ []))

-- the equality that is derived is that of the stated order
pub derived_eq : (s t : Semantic) → same.ghosts.eq s t ≡ is_eq (semantic_cmp s t)
derived_eq (Extras a) (Extras b) = sym (is_eq-slice_cmp (string_bytes a) (string_bytes b))
derived_eq (Extras a) t = refl
derived_eq Positions Positions = refl
derived_eq Positions t = refl
derived_eq Normals Normals = refl
derived_eq Normals t = refl
derived_eq Tangents Tangents = refl
derived_eq Tangents t = refl
derived_eq (Colors a) (Colors b) = tied_numbers a b
derived_eq (Colors a) t = refl
derived_eq (TexCoords a) (TexCoords b) = tied_numbers a b
derived_eq (TexCoords a) t = refl
derived_eq (Joints a) (Joints b) = tied_numbers a b
derived_eq (Joints a) t = refl
derived_eq (Weights a) (Weights b) = tied_numbers a b
derived_eq (Weights a) t = refl
