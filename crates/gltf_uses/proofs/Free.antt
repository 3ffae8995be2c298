-- Uses among which there is none of one element, and the rules of indices there.
use Rattle.std.proofs.Common.{◌≡◌, ℕ, ◌+◌, Bool, true, false, if◌then◌else◌, List, [], ◌∷◌}
use Rattle.std.proofs.Common.{◌++◌, Option, Some, None, map, refl, sym, ap, ◌∙◌, nat_lt, arith}
use Rattle.std.specs.Prelude.{◌==◌, ◌&&◌, ⊤}
use Rattle.std.specs.List.{filter}
use Rattle.std.proofs.lemmas.Bool.Decides.{nat_tests}
use Rattle.std.proofs.lemmas.Grind.{common_steps}
use Rattle.std.proofs.lemmas.List.Elements.{filter-append}
use Rattle.gltf_json_geometry.specs.Semantics.{semantic_name}
use Rattle.gltf_json_geometry.specs.declared.semantic.Semantic.{Semantic}
use Rattle.gltf_json_record.specs.Place.{Place, keyed, numbered}
use Rattle.gltf_validation.specs.declared.error.Error.TheVariants.{IndexOutOfBounds}
use Rattle.gltf_validation.specs.Members.{elements_rules, index_rules, list_rules, optional_rules}
use Rattle.gltf_validation.specs.Members.{member as member_rules}
use Rattle.gltf_validation.specs.Meshes.{entries_rules}
use Rattle.gltf_validation.specs.Rules.{Rules, Condition, At as AtRules, Both as BothRules}
use Rattle.gltf_uses.specs.declared.kind.Kind.{Kind}
use Rattle.gltf_uses.specs.Geometry.{entries_uses}
use Rattle.gltf_uses.specs.Kinds.{number}
use Rattle.gltf_uses.specs.References.{names}
use Rattle.gltf_uses.specs.Uses.{Uses, Nothing, Use, At, Both, Held, held_at, optional_uses}
use Rattle.gltf_uses.specs.Uses.{elements_uses, list_uses}

pub at : (name : List ℕ) {a b : Rules} → a ≡ b → member_rules name a ≡ member_rules name b
at name e = ap (member_rules name) e

pub both : {a b c d : Rules} → a ≡ b → c ≡ d → BothRules a c ≡ BothRules b d
both {b = b} {c = c} e f = ap (λ t. BothRules t c) e ∙ ap (BothRules b) f

nil_left : {A : Type 0} (xs ys : List A) → xs ++ ys ≡ [] → xs ≡ []
nil_left [] ys e = refl
nil_left (x ∷ xs) ys e = cc

nil_right : {A : Type 0} (xs ys : List A) → xs ++ ys ≡ [] → ys ≡ []
nil_right [] ys e = e
nil_right (x ∷ xs) ys e = cc

pub nil_of : {A B : Type 0} (f : A → B) (xs : List A) → map f xs ≡ [] → xs ≡ []
nil_of f [] e = refl
nil_of f (x ∷ xs) e = cc

none_kept : (b : Bool) (h : Held) → (if b then h ∷ [] else []) ≡ [] → b ≡ false
none_kept true h e = cc
none_kept false h e = refl

module _ (kind : Kind) (i : ℕ) where
  -- none of the uses is of element i of the list
  abbrev pub Free : Uses → Type 0
  Free Nothing = ⊤
  Free (Use k j) = (number k == number kind && j == i) ≡ false
  Free (At step uses) = Free uses
  Free (Both some others) = Free some × Free others

  pub free_where_none : (path : List Place) (t : Uses)
      → filter (names kind i) (held_at path t) ≡ [] → Free t
  free_where_none path Nothing e = tt
  free_where_none path (Use k j) e =
      none_kept (number k == number kind && j == i)
      (record { path = path; kind = k; index = j }) e
  free_where_none path (At step t) e = free_where_none (path ++ step ∷ []) t e
  free_where_none path (Both t u) e =
      let parts : filter (names kind i) (held_at path t)
      ++ filter (names kind i) (held_at path u) ≡ [] =
      sym (filter-append (names kind i) (held_at path t) (held_at path u)) ∙ e in (
        free_where_none path t (nil_left (filter (names kind i) (held_at path t)) (filter
            (names kind i) (held_at path u)) parts),
        free_where_none path u (nil_right (filter (names kind i) (held_at path t)) (filter
            (names kind i) (held_at path u)) parts),
      )

  one_more : (j : ℕ) → (j == i) ≡ false → nat_lt j i ≡ nat_lt j (i + 1)
  one_more j e = grind (arith, common_steps, nat_tests)

  -- the rule of an index that is not i, in a list that may be the one of i elements
  index_same : (is_list : Bool) (n j : ℕ) → (is_list && j == i) ≡ false
      → index_rules (if is_list then i else n) j
      ≡ index_rules (if is_list then i + 1 else n) j
  index_same true n j e = ap (λ t. Condition t IndexOutOfBounds) (one_more j e)
  index_same false n j e = refl

  module _ {T : Type 0} (before after : T → Rules) (uses : T → Uses)
      (same : (x : T) → Free (uses x) → before x ≡ after x) where
    pub optional_same : (o : Option T) → Free (optional_uses uses o)
        → optional_rules before o ≡ optional_rules after o
    optional_same None free = refl
    optional_same (Some x) free = same x free

    elements_same : (k : ℕ) (xs : List T) → Free (elements_uses uses k xs)
        → elements_rules before k xs ≡ elements_rules after k xs
    elements_same k [] free = refl
    elements_same k (x ∷ xs) free =
        both (ap (AtRules (numbered k)) (same x free.0)) (elements_same (k + 1) xs free.1)

    pub list_same : (xs : List T) → Free (list_uses uses xs)
        → list_rules before xs ≡ list_rules after xs
    list_same xs free = elements_same 0 xs free

    entries_same : (es : List (Semantic × T)) → Free (entries_uses uses es)
        → entries_rules before es ≡ entries_rules after es
    entries_same [] free = refl
    entries_same (e ∷ es) free =
        both (ap (AtRules (keyed (semantic_name e.0))) (same e.1 free.0)) (entries_same es free.1)

  module _ (k : Kind) (n : ℕ) where
    abbrev before_index : ℕ → Rules
    before_index = index_rules (if number k == number kind then i else n)

    abbrev after_index : ℕ → Rules
    after_index = index_rules (if number k == number kind then i + 1 else n)

    -- the rules of members that hold indices into one list, of n elements if it is not the one
    pub one_index : (j : ℕ) → Free (Use k j) → before_index j ≡ after_index j
    one_index j free = index_same (number k == number kind) n j free

    pub optional_index : (o : Option ℕ) → Free (optional_uses (Use k) o)
        → optional_rules before_index o ≡ optional_rules after_index o
    optional_index o free = optional_same before_index after_index (Use k) one_index o free

    pub list_index : (xs : List ℕ) → Free (list_uses (Use k) xs)
        → list_rules before_index xs ≡ list_rules after_index xs
    list_index xs free = list_same before_index after_index (Use k) one_index xs free

    pub entries_index : (es : List (Semantic × ℕ)) → Free (entries_uses (Use k) es)
        → entries_rules before_index es ≡ entries_rules after_index es
    entries_index es free = entries_same before_index after_index (Use k) one_index es free
