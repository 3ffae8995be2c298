use Rattle.std.proofs.Common.{◌≡◌, ℕ, true, false, Bool, ◌==◌, List, [], ◌∷◌, refl, if◌then◌else◌}
use Rattle.std.specs.Prelude.{codes}
use Rattle.std.specs.List.{list_any}
use Rattle.std.proofs.lemmas.List.Folds.{list_any-append}
use Rattle.gltf_html.specs.Html.{html_byte, html_text, is_markup}
use Rattle.gltf_html.proofs.laws.escaped_text_holds_no_markup.Goals as goal

-- by which of the five bytes it is
byte : (b : ℕ) (u v w x y : Bool) → b == 38 ≡ u → b == 60 ≡ v → b == 62 ≡ w
    → b == 34 ≡ x → b == 39 ≡ y
    → list_any is_markup (if u then codes "&amp;" else if v then codes "&lt;"
    else if w then codes "&gt;" else if x then codes "&quot;"
    else if y then codes "&#39;" else b ∷ []) ≡ false
byte b true v w x y _ _ _ _ _ = refl
byte b false true w x y _ _ _ _ _ = refl
byte b false false true x y _ _ _ _ _ = refl
byte b false false false true y _ _ _ _ _ = refl
byte b false false false false true _ _ _ _ _ = refl
byte b false false false false false _ v w x y = rw (v, w, x, y) refl

text : (bs : List ℕ) → list_any is_markup (html_text bs) ≡ false
text [] = refl
text (b ∷ bs) =
    rw (
      list_any-append is_markup (html_byte b) (html_text bs),
      byte b (b == 38) (b == 60) (b == 62) (b == 34) (b == 39) refl refl refl refl refl,
      text bs,
    ) refl

pub returns : goal.returns
returns c = text
