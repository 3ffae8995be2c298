-- What is appended in two steps is appended in one.
use Rattle.std.proofs.Common.{◌≡◌, List, ◌++◌, ap, ◌∙◌, append_assoc}
use Rattle.json.specs.Token.{Token}

pub joined : (before x y : List Token) {between after : List Token} → between ≡ before ++ x
    → after ≡ between ++ y → after ≡ before ++ (x ++ y)
joined before x y first second =
    second ∙ ap (λ ts. ts ++ y) first ∙ append_assoc before x y
