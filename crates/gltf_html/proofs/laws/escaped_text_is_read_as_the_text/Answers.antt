use Rattle.std.proofs.Common.{◌≡◌, ℕ, true, false, Bool, ◌==◌, List, [], ◌∷◌, ◌++◌, refl}
use Rattle.std.proofs.Common.{if◌then◌else◌}
use Rattle.std.specs.Prelude.{codes}
use Rattle.gltf_html.specs.Html.{html_text}
use Rattle.gltf_html.specs.References.{text_of}
use Rattle.gltf_html.proofs.laws.escaped_text_is_read_as_the_text.Goals as goal
use Rattle.std.proofs.lemmas.Bool.{eqb-true}

-- by which of the five bytes it is
byte : (b : ℕ) (rest : List ℕ) (u v w x y : Bool)
    → b == 38 ≡ u → b == 60 ≡ v → b == 62 ≡ w → b == 34 ≡ x → b == 39 ≡ y
    → text_of ((if u then codes "&amp;" else if v then codes "&lt;"
    else if w then codes "&gt;" else if x then codes "&quot;" else if y then codes "&#39;"
    else b ∷ []) ++ rest) ≡ b ∷ text_of rest
byte b rest true v w x y u _ _ _ _ = rw (eqb-true b 38 u) refl
byte b rest false true w x y _ v _ _ _ = rw (eqb-true b 60 v) refl
byte b rest false false true x y _ _ w _ _ = rw (eqb-true b 62 w) refl
byte b rest false false false true y _ _ _ x _ = rw (eqb-true b 34 x) refl
byte b rest false false false false true _ _ _ _ y = rw (eqb-true b 39 y) refl
byte b rest false false false false false u _ _ _ _ = rw u refl

text : (bs : List ℕ) → text_of (html_text bs) ≡ bs
text [] = refl
text (b ∷ bs) =
    rw (
      byte b (html_text bs) (b == 38) (b == 60) (b == 62) (b == 34) (b == 39)
          refl refl refl refl refl,
      text bs,
    ) refl

pub returns : goal.returns
returns c = text
