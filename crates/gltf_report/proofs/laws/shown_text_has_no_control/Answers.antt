use Rattle.std.proofs.Common.{◌≡◌, ℕ, ◌+◌, ◌/◌, ◌<◌, ◌≤◌, ◌%◌, true, false, Bool, ◌==◌, List, [], ◌∷◌}
use Rattle.std.proofs.Common.{refl, arith, if◌then◌else◌}
use Rattle.std.specs.Prelude.{nat_lt, nat_le}
use Rattle.std.specs.List.{list_any}
use Rattle.std.proofs.lemmas.Bool.Decides.{nat_tests}
use Rattle.std.proofs.lemmas.List.Folds.{list_any-append}
use Rattle.std.proofs.lemmas.Nat.{mod_below}
use Rattle.gltf_report.specs.Printable.{is_control, hex_digit, escape, shown_char, shown_chars}
use Rattle.gltf_report.proofs.laws.shown_text_has_no_control.Goals as goal

-- an ASCII character that is none
plain : (c : ℕ) → 32 ≤ c → c < 127 → is_control c ≡ false
plain c low high = grind (arith, nat_tests)

digit_of : (d : ℕ) → d < 16 → (b : Bool) → is_control (if b then 48 + d else 87 + d) ≡ false
digit_of d below true = plain (48 + d) (omega arith) (omega arith)
digit_of d below false = plain (87 + d) (omega arith) (omega arith)

digit : (n : ℕ) → is_control (hex_digit n) ≡ false
digit n = digit_of (n % 16) (mod_below n 16 (omega arith)) (nat_lt (n % 16) 10)

escape_shown : (c : ℕ) → list_any is_control (escape c) ≡ false
escape_shown c =
    rw (digit (c / 4096), digit (c / 256), digit (c / 16), digit c) refl

char : (c : ℕ) (u : Bool) → is_control c ≡ u
    → list_any is_control (if u then escape c else c ∷ []) ≡ false
char c true _ = escape_shown c
char c false is = rw is refl

text : (cs : List ℕ) → list_any is_control (shown_chars cs) ≡ false
text [] = refl
text (c ∷ cs) =
    rw (
      list_any-append is_control (shown_char c) (shown_chars cs),
      char c (is_control c) refl,
      text cs,
    ) refl

pub returns : goal.returns
returns c = text
