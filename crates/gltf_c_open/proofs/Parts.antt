-- All parts but the last.
use Rattle.std.proofs.Common.{◌≡◌, ℕ, ◌-◌, List, length, map, take, sym, ap, ◌∙◌}
use Rattle.std.proofs.lemmas.List.{take-map}

pub all_but_last : {X Y : Type 0} (f : X → Y) (items : List X) (parts : List Y) (n : ℕ)
    (left : List X) → map f items ≡ parts → n ≡ length parts - 1 → left ≡ take n items
    → map f left ≡ take (length parts - 1) parts
all_but_last f items parts n left are count cut =
    ap (map f) (cut ∙ ap (λ k. take k items) count)
    ∙ sym (take-map f (length parts - 1) items)
    ∙ ap (take (length parts - 1)) are
