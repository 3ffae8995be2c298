-- Where the rules of the entries of a map hold, those of each value do.
use Rattle.std.proofs.Common.{ℕ, ◌≡◌, ◌<◌, suc, zero, List, [], ◌∷◌, length, slice_index_or, map}
use Rattle.std.proofs.Common.{sym, arith, subst}
use Rattle.std.specs.List.{IsAmong}
use Rattle.gltf_json_geometry.specs.declared.semantic.Semantic.{Semantic}
use Rattle.gltf_validation.specs.Meshes.{entries_rules}
use Rattle.gltf_validation.specs.Rules.{Rules, Hold}

value_holds_at : {T : Type 0} (rules : T → Rules) (es : List (Semantic × T)) (i : ℕ) (x : T)
    → i < length (map (λ e. e.1) es) → x ≡ slice_index_or (map (λ e. e.1) es) i x
    → Hold (entries_rules rules es) → Hold (rules x)
value_holds_at rules [] i x l e h = absurd (omega arith)
value_holds_at rules (entry ∷ es) zero x l e h = subst (λ z. Hold (rules z)) (sym e) h.0
value_holds_at rules (entry ∷ es) (suc i) x l e h =
    let shorter : i < length (map (λ e. e.1) es) = omega arith in
    value_holds_at rules es i x shorter e h.1

pub value_holds : {T : Type 0} (rules : T → Rules) (es : List (Semantic × T)) (x : T)
    → IsAmong (map (λ e. e.1) es) x → Hold (entries_rules rules es) → Hold (rules x)
value_holds rules es x among h = value_holds_at rules es among.0 x among.1.0 among.1.1 h
