-- Values that show the same have the same rules: what every record's proof is made of.
use Rattle.std.proofs.Common.{◌≡◌, ℕ, ◌+◌, Bool, List, [], ◌∷◌, map, length, Option, Some, None}
use Rattle.std.proofs.Common.{is_some, option_map, refl, sym, ap, ◌∙◌}
use Rattle.std.specs.Prelude.{is_none, not, ◌||◌}
use Rattle.std.proofs.lemmas.List.{length-map}
use Rattle.gltf_json_record.specs.Place.{numbered}
use Rattle.gltf_validation.specs.declared.error.Error.TheVariants.{Missing}
use Rattle.gltf_validation.specs.Rules.{Rules, Condition, At, Both}
use Rattle.gltf_validation.specs.Members.{member, optional_rules, elements_rules, list_rules}
use Rattle.gltf_validation.specs.Members.{needed_rules}

pub at : (name : List ℕ) {a b : Rules} → a ≡ b → member name a ≡ member name b
at name e = ap (member name) e

pub both : {a b c d : Rules} → a ≡ b → c ≡ d → Both a c ≡ Both b d
both {b = b} {c = c} e f = ap (λ t. Both t c) e ∙ ap (Both b) f

pub optional_alike : {T S : Type 0} (content : T → S) (rules : T → Rules)
    → ((x y : T) → content x ≡ content y → rules x ≡ rules y)
    → (o p : Option T) → option_map content o ≡ option_map content p
    → optional_rules rules o ≡ optional_rules rules p
optional_alike content rules alike None None e = refl
optional_alike content rules alike None (Some y) e = cc
optional_alike content rules alike (Some x) None e = cc
optional_alike content rules alike (Some x) (Some y) e = alike x y cc

elements_alike : {T S : Type 0} (content : T → S) (rules : T → Rules)
    → ((x y : T) → content x ≡ content y → rules x ≡ rules y)
    → (i : ℕ) (xs ys : List T) → map content xs ≡ map content ys
    → elements_rules rules i xs ≡ elements_rules rules i ys
elements_alike content rules alike i [] [] e = refl
elements_alike content rules alike i [] (y ∷ ys) e = cc
elements_alike content rules alike i (x ∷ xs) [] e = cc
elements_alike content rules alike i (x ∷ xs) (y ∷ ys) e =
    let first : content x ≡ content y = cc in
    let rest : map content xs ≡ map content ys = cc in
    both (ap (At (numbered i)) (alike x y first))
    (elements_alike content rules alike (i + 1) xs ys rest)

pub list_alike : {T S : Type 0} (content : T → S) (rules : T → Rules)
    → ((x y : T) → content x ≡ content y → rules x ≡ rules y)
    → (xs ys : List T) → map content xs ≡ map content ys → list_rules rules xs ≡ list_rules rules ys
list_alike content rules alike xs ys e = elements_alike content rules alike 0 xs ys e

pub length_alike : {T S : Type 0} (content : T → S) (xs ys : List T)
    → map content xs ≡ map content ys → length xs ≡ length ys
length_alike content xs ys e = sym (length-map xs content) ∙ ap length e ∙ length-map ys content

pub is_some-alike : {T S : Type 0} (content : T → S) (o p : Option T)
    → option_map content o ≡ option_map content p → is_some o ≡ is_some p
is_some-alike content None None e = refl
is_some-alike content None (Some y) e = cc
is_some-alike content (Some x) None e = cc
is_some-alike content (Some x) (Some y) e = refl

pub is_none-alike : {T S : Type 0} (content : T → S) (o p : Option T)
    → option_map content o ≡ option_map content p → is_none o ≡ is_none p
is_none-alike content None None e = refl
is_none-alike content None (Some y) e = cc
is_none-alike content (Some x) None e = cc
is_none-alike content (Some x) (Some y) e = refl

pub needed_alike : {T S : Type 0} (content : T → S) (a b : Bool) (o p : Option T) → a ≡ b
    → option_map content o ≡ option_map content p
    → needed_rules a o ≡ needed_rules b p
needed_alike content a b o p e f =
    ap (λ t. Condition (not t || is_some o) Missing) e
    ∙ ap (λ t. Condition (not b || t) Missing) (is_some-alike content o p f)
