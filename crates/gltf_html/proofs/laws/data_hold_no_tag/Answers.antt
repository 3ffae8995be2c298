use Rattle.std.proofs.Common.{◌≡◌, ℕ, true, false, Bool, ◌==◌, List, [], ◌∷◌, refl, if◌then◌else◌}
use Rattle.std.specs.Prelude.{codes}
use Rattle.std.specs.List.{list_any}
use Rattle.std.proofs.lemmas.List.Folds.{list_any-append}
use Rattle.gltf_html.specs.Html.{data_byte, data_text, is_less_than}
use Rattle.gltf_html.proofs.laws.data_hold_no_tag.Goals as goal

byte : (b : ℕ) (u : Bool) → b == 60 ≡ u
    → list_any is_less_than (if u then codes "\\u003c" else b ∷ []) ≡ false
byte b true _ = refl
byte b false u = rw u refl

text : (bs : List ℕ) → list_any is_less_than (data_text bs) ≡ false
text [] = refl
text (b ∷ bs) =
    rw (list_any-append is_less_than (data_byte b) (data_text bs), byte b (b == 60) refl, text bs)
    refl

pub returns : goal.returns
returns c = text
