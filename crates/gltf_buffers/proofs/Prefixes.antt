-- What follows a prefix.
use Rattle.std.proofs.Common.{ℕ, ◌≡◌, Bool, true, false, List, ◌++◌, length, drop, refl}
use Rattle.std.specs.Prelude.{Option, Some, None, MatchOption, option_copied, nat_eq, if◌then◌else◌}
use Rattle.std.specs.Borrow.{Bor}
use Rattle.std.specs.List.{starts_with}
use Rattle.std.specs.Str.Pattern.{FindsTextPrefix, StripsPrefix as StripsText}
use Rattle.std.proofs.lemmas.Slice.Eq.{starts_is}
use Rattle.std.proofs.lemmas.Bool.{false_from_ne_true}
use Rattle.std.proofs.lemmas.Bool.Decides.{Decides-eqb}
use Rattle.gltf_buffers.specs.Uri.{text_behind}
use Rattle.gltf_buffers.specs.UriLaws.{StripsPrefix}

pub begins : (n s rest : List ℕ) → s ≡ n ++ rest → starts_with nat_eq s n ≡ true
begins n s rest e = (starts_is Decides-eqb s n (starts_with nat_eq s n) refl).1 rest e

pub parts_of : (n s : List ℕ) → starts_with nat_eq s n ≡ true → s ≡ n ++ drop (length n) s
parts_of n s is = (starts_is Decides-eqb s n (starts_with nat_eq s n) refl).0 is

pub begins_not : (n s : List ℕ) → ((rest : List ℕ) → s ≡ n ++ rest → ⊥)
    → starts_with nat_eq s n ≡ false
begins_not n s lacks =
    false_from_ne_true (starts_with nat_eq s n) (λ e. lacks (drop (length n) s) (parts_of n s e))

pub no_parts : (n s rest : List ℕ) → starts_with nat_eq s n ≡ false → s ≡ n ++ rest → ⊥
no_parts n s rest isnt e = cc (begins n s rest e, isnt)

strip : (n s : List ℕ) (is : Bool) → starts_with nat_eq s n ≡ is
    → MatchOption (if is then Some (drop (length n) s) else None)
    ((rest : List ℕ) → s ≡ n ++ rest → ⊥) (λ rest. s ≡ n ++ rest)
strip n s true is = parts_of n s is
strip n s false isnt = λ rest. no_parts n s rest isnt

pub strips_prefix : StripsPrefix
strips_prefix n s = strip n s (starts_with nat_eq s n) refl

-- what std's search for a prefix gives
pub strip_text : (n s : List ℕ) (r : Option (Bor (List ℕ)))
    → MatchOption r (FindsTextPrefix n s None) (λ x. StripsText (FindsTextPrefix n) s x.now)
    → option_copied r ≡ text_behind n s
strip_text n s None lacks = rw (begins_not n s lacks) refl
strip_text n s (Some x) (k, (is, cut, _), rest, _) = rw (begins n s (drop k s) cut, rest, is) refl
