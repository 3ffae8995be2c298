-- What some walks tell, one after the other.
use Rattle.std.proofs.Common.{◌≡◌, ◌∙◌, ap, subst, List}
use Rattle.std.specs.Prelude.{Result, OnOk}
use Rattle.gltf_json_record.specs.Place.{Place}
use Rattle.gltf_findings.specs.declared.code.Code.{Code}
use Rattle.gltf_findings.specs.Checks.{Checks, ◌&◌, told_after}

two_same : (old : List (List Place × Code)) (path : List Place) (a b a2 b2 : Checks)
    → a ≡ a2 → b ≡ b2
    → told_after (told_after old path a) path b ≡ told_after (told_after old path a2) path b2
two_same old path a b a2 b2 p q =
    ap (λ x. told_after (told_after old path x) path b) p
    ∙ ap (λ x. told_after (told_after old path a2) path x) q

-- two walks
pub both : {T E : Type 0} (result : Result T E) (old one two : List (List Place × Code))
    (path : List Place) (a b a2 b2 : Checks) → one ≡ told_after old path a
    → OnOk result (two ≡ told_after one path b) → a ≡ a2 → b ≡ b2
    → OnOk result (two ≡ told_after old path (a2 & b2))
both result old one two path a b a2 b2 first last p q =
    subst (λ t. OnOk result (two ≡ t))
    (ap (λ t. told_after t path b) first ∙ two_same old path a b a2 b2 p q) last

-- three walks
pub all_three : {T E : Type 0} (result : Result T E) (old one two three : List (List Place × Code))
    (path : List Place) (a b c a2 b2 c2 : Checks) → one ≡ told_after old path a
    → two ≡ told_after one path b → OnOk result (three ≡ told_after two path c)
    → a ≡ a2 → b ≡ b2 → c ≡ c2
    → OnOk result (three ≡ told_after old path (a2 & b2 & c2))
all_three result old one two three path a b c a2 b2 c2 first second last p q r =
    subst (λ t. OnOk result (three ≡ t))
    (ap (λ t. told_after t path c) (second ∙ ap (λ t. told_after t path b) first)
    ∙ ap (λ t. told_after t path c) (two_same old path a b a2 b2 p q)
    ∙ ap (λ x. told_after (told_after (told_after old path a2) path b2) path x) r) last
