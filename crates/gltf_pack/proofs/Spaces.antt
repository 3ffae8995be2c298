-- Spaces after a JSON text change none of its tokens (RFC 8259, sections 2, 6 and 7).
-- `spaces_behind` proves the law of that name, by induction on their number. The step is
-- `one_more`: one space keeps the text UTF-8, and keeps the lexemes (`lex_space`, by induction on
-- the text for each mode of the lexer). A string keeps its content (`content_space`, by induction
-- with a case for each escape), a number its end (`after_number_space`, from sign to exponent), and
-- a name as `true` its end too (`name_space`).
use Rattle.std.proofs.Common.{◌≡◌, ℕ, zero, suc, ◌+◌, ◌-◌, List, [], ◌∷◌, ◌++◌, length, take}
use Rattle.std.proofs.Common.{drop, replicate, Bool, true, false, cond, ◌&&◌, ◌||◌, ◌==◌, nat_lt}
use Rattle.std.proofs.Common.{nat_eq, Option, Some, None, option_and_then, refl, sym, ap, subst}
use Rattle.std.proofs.Common.{◌∙◌, not, arith, IsUtf8, append_assoc, length-append}
use Rattle.std.proofs.lemmas.List.{append-nil, take-append-le, drop-append-le}
use Rattle.std.proofs.lemmas.List.Sums.{prefix_len-le-length}
use Rattle.std.proofs.lemmas.Str.{IsUtf8-from_ascii, IsUtf8-append, IsUtf8-take}
use Rattle.std.proofs.lemmas.Str.{IsCharBoundary-at_seam}
use Rattle.std.proofs.Math.Seq.{take-append_seam}
use Rattle.std.specs.Prelude.{slice_index, ◌↔◌, ◌<◌}
use Rattle.std.specs.List.{list_all, prefix_len, starts_with}
use Rattle.std.specs.Char.{is_ascii_digit, encode_utf8}
use Rattle.json.specs.Text.{code_unit, short_escape, is_high_surrogate, is_low_surrogate}
use Rattle.json.specs.Text.{surrogate_pair, Within, plain, after_backslash, after_u, after_high}
use Rattle.json.specs.Text.{prepend, content}
use Rattle.json.specs.Token.{Token, number, bad, boolean, null}
use Rattle.json.specs.Word.{head, ends_word, after_digits, after_minus, after_sign, after_whole}
use Rattle.json.specs.Word.{after_fraction, after_exponent, after_number, number_before, literal}
use Rattle.json.specs.Word.{word, is_operator, is_space}
use Rattle.json.specs.Ascii as ascii
use Rattle.json.specs.Lex.{Lexeme, token, Class, quote, backslash, operator, space}
use Rattle.json.specs.Lex.{other, class, operator_lexeme, string_token, Mode, between, in_word}
use Rattle.json.specs.Lex.{in_string, in_escape, lex_byte, lex, punctuate, fresh}
use Rattle.json.specs.Json as json
use Rattle.serde_json.specs.Data.{Data}
use Rattle.serde_json.specs.Read.{read, of_json, max_depth}
use Rattle.gltf_json.specs.Reading.{Reads}
use Rattle.gltf_pack.specs.Laws.{SpacesBehind}

abbrev one : List ℕ
one = 32 ∷ []

-- ---- strings

and_false : (p q r : Bool) → (p && q && r && false) ≡ false
and_false true true true = refl
and_false true true false = refl
and_false true false r = refl
and_false false q r = refl

no_unit : (a b c : ℕ) → code_unit a b c 32 ≡ None
unfolding code_unit
no_unit a b c = rw (and_false _ _ _) refl

never : {A : Type 0} (b : Bool) → (let none : Option A = None in cond b none None ≡ None)
never true = refl
never false = refl

content_space : (w : Within) (xs : List ℕ) → content w (xs ++ one) ≡ content w xs
unfolding content short_escape
content_space plain [] = refl
content_space plain (x ∷ xs) =
    let escaped = content_space after_backslash xs in
    let more = content_space plain xs in
    λ i. cond (x == ascii.quote) (Some []) (cond (x == ascii.backslash) (escaped i)
    (cond (nat_lt x ascii.space) None (prepend (x ∷ []) (more i))))
content_space after_backslash [] = refl
content_space after_backslash (x ∷ xs) =
    let unit = content_space after_u xs in
    let more = content_space plain xs in
    λ i. cond (x == ascii.lower_u) (unit i)
    (option_and_then (λ c. prepend (c ∷ []) (more i)) (short_escape x))
content_space after_u [] = refl
content_space after_u (a ∷ []) = refl
content_space after_u (a ∷ b ∷ []) = refl
content_space after_u (a ∷ b ∷ c ∷ []) = rw (no_unit a b c) refl
content_space after_u (a ∷ b ∷ c ∷ d ∷ xs) =
    let more = content_space plain xs in
    λ i. option_and_then (λ u. cond (is_high_surrogate u) (content_space (after_high u) xs i)
    (cond (is_low_surrogate u) None (prepend (encode_utf8 u) (more i)))) (code_unit a b c d)
content_space (after_high h) [] = refl
content_space (after_high h) (s ∷ []) = refl
content_space (after_high h) (s ∷ u ∷ []) = refl
content_space (after_high h) (s ∷ u ∷ a ∷ []) = refl
content_space (after_high h) (s ∷ u ∷ a ∷ b ∷ []) = refl
content_space (after_high h) (s ∷ u ∷ a ∷ b ∷ c ∷ []) =
    rw (no_unit a b c) (never ((s == ascii.backslash) && (u == ascii.lower_u)))
content_space (after_high h) (s ∷ u ∷ a ∷ b ∷ c ∷ d ∷ xs) =
    let more = content_space plain xs in
    λ i. cond ((s == ascii.backslash) && (u == ascii.lower_u))
    (option_and_then (λ l. cond (is_low_surrogate l) (prepend (encode_utf8 (surrogate_pair h l))
    (more i)) None) (code_unit a b c d)) None

-- ---- numbers

head_space : (t : List ℕ) → head (t ++ one) ≡ head t
head_space [] = refl
head_space (x ∷ xs) = refl

ends_space : (t : List ℕ) → ends_word (t ++ one) ≡ ends_word t
ends_space t = ap (λ h. is_operator h || is_space h) (head_space t)

abbrev spaced : Option (List ℕ) → Option (List ℕ)
spaced None = None
spaced (Some t) = Some (t ++ one)

either_spaced : (b : Bool) (p q : List ℕ) → cond b (p ++ one) (q ++ one) ≡ cond b p q ++ one
either_spaced true p q = refl
either_spaced false p q = refl

either_behind : (b : Bool) (p q : Option (List ℕ)) → cond b (spaced p) (spaced q)
    ≡ spaced (cond b p q)
either_behind true p q = refl
either_behind false p q = refl

digits_space : (t : List ℕ) → prefix_len is_ascii_digit (t ++ one) ≡ prefix_len is_ascii_digit t
digits_space [] = refl
digits_space (x ∷ xs) =
    let more = digits_space xs in λ i. cond (is_ascii_digit x) (1 + more i) 0

after_digits_space : (t : List ℕ) → after_digits (t ++ one) ≡ spaced (after_digits t)
after_digits_space t =
    ap (λ m. cond (m == 0) None (Some (drop m (t ++ one)))) (digits_space t)
    ∙ ap (λ l. cond (prefix_len is_ascii_digit t == 0) None (Some l))
    (drop-append-le (prefix_len is_ascii_digit t) t one (prefix_len-le-length is_ascii_digit t))
    ∙ either_behind (prefix_len is_ascii_digit t == 0) None
    (Some (drop (prefix_len is_ascii_digit t) t))

after_minus_space : (t : List ℕ) → after_minus (t ++ one) ≡ after_minus t ++ one
after_minus_space [] = refl
after_minus_space (x ∷ xs) = either_spaced (x == ascii.minus) xs (x ∷ xs)

after_sign_space : (t : List ℕ) → after_sign (t ++ one) ≡ after_sign t ++ one
after_sign_space [] = refl
after_sign_space (x ∷ xs) =
    either_spaced ((x == ascii.minus) || (x == ascii.plus)) xs (x ∷ xs)

after_whole_space : (t : List ℕ) → after_whole (t ++ one) ≡ spaced (after_whole t)
after_whole_space [] = refl
after_whole_space (x ∷ xs) =
    ap (cond (x == ascii.zero) (Some (xs ++ one))) (after_digits_space (x ∷ xs))
    ∙ either_behind (x == ascii.zero) (Some xs) (after_digits (x ∷ xs))

after_fraction_space : (t : List ℕ) → after_fraction (t ++ one) ≡ spaced (after_fraction t)
after_fraction_space [] = refl
after_fraction_space (x ∷ xs) =
    ap (λ o. cond (x == ascii.dot) o (Some (x ∷ xs ++ one))) (after_digits_space xs)
    ∙ either_behind (x == ascii.dot) (after_digits xs) (Some (x ∷ xs))

after_exponent_space : (t : List ℕ) → after_exponent (t ++ one) ≡ spaced (after_exponent t)
after_exponent_space [] = refl
after_exponent_space (x ∷ xs) =
    ap (λ o. cond ((x == ascii.lower_e) || (x == ascii.upper_e)) o (Some (x ∷ xs ++ one)))
    (ap after_digits (after_sign_space xs) ∙ after_digits_space (after_sign xs))
    ∙ either_behind ((x == ascii.lower_e) || (x == ascii.upper_e)) (after_digits (after_sign xs))
    (Some (x ∷ xs))

then_space : (f : List ℕ → Option (List ℕ)) (keeps : (t : List ℕ) → f (t ++ one) ≡ spaced (f t))
    (o : Option (List ℕ)) → option_and_then f (spaced o) ≡ spaced (option_and_then f o)
then_space f keeps None = refl
then_space f keeps (Some t) = keeps t

after_number_space : (t : List ℕ) → after_number (t ++ one) ≡ spaced (after_number t)
unfolding after_number
after_number_space t =
    ap (λ o. option_and_then after_exponent (option_and_then after_fraction o))
    (ap after_whole (after_minus_space t) ∙ after_whole_space (after_minus t))
    ∙ ap (option_and_then after_exponent)
    (then_space after_fraction after_fraction_space (after_whole (after_minus t)))
    ∙ then_space after_exponent after_exponent_space
    (option_and_then after_fraction (after_whole (after_minus t)))

number_space : (t : List ℕ) (o : Option (List ℕ))
    → number_before (t ++ one) (spaced o) ≡ number_before t o
number_space t None = refl
number_space t (Some rest) =
    let long : length (t ++ one) - length (rest ++ one) ≡ length t - length rest =
    omega (arith, length-append t one, length-append rest one) in
    ap (λ b. cond b (number (take (length (t ++ one) - length (rest ++ one)) (t ++ one))) bad)
    (ends_space rest)
    ∙ ap (λ n. cond (ends_word rest) (number (take n (t ++ one))) bad) long
    ∙ ap (λ l. cond (ends_word rest) (number l) bad)
    (take-append-le (length t - length rest) t one (omega arith))

-- ---- words

no_front : (b p q r : Bool) → (not b && p) ≡ true → ((b && q) && r) ≡ false
no_front true p q r is = cc
no_front false p q r is = refl

and_behind : (b p q r s : Bool) → (p && r) ≡ (q && s) → ((b && p) && r) ≡ ((b && q) && s)
and_behind true p q r s same = same
and_behind false p q r s same = refl

all_behind : (b p : Bool) → (b && p) ≡ true → p ≡ true
all_behind true p is = is
all_behind false p is = cc

-- a name in which no space stands
name_space : (name t : List ℕ) → list_all (λ x. not (x == 32)) name ≡ true
    → (starts_with nat_eq (t ++ one) name && ends_word (drop (length name) (t ++ one)))
    ≡ (starts_with nat_eq t name && ends_word (drop (length name) t))
name_space [] t is = ends_space t
name_space (n ∷ ns) [] is =
    no_front (n == 32) (list_all (λ x. not (x == 32)) ns) (starts_with nat_eq [] ns)
    (ends_word (drop (length ns) [])) is
name_space (n ∷ ns) (x ∷ xs) is =
    and_behind (n == x) (starts_with nat_eq (xs ++ one) ns) (starts_with nat_eq xs ns)
    (ends_word (drop (length ns) (xs ++ one))) (ends_word (drop (length ns) xs))
    (name_space ns xs
    (all_behind (not (n == 32)) (list_all (λ y. not (y == 32)) ns) is))

literal_space : (name : List ℕ) (meant : Token) (t : List ℕ)
    → list_all (λ x. not (x == 32)) name ≡ true
    → literal name meant (t ++ one) ≡ literal name meant t
literal_space name meant t is = ap (λ b. cond b meant bad) (name_space name t is)

word_space : (t : List ℕ) → word (t ++ one) ≡ word t
unfolding word
word_space t =
    let h = head_space t in
    let truth = literal_space ascii.true_text (boolean true) t refl in
    let falsity = literal_space ascii.false_text (boolean false) t refl in
    let nothing = literal_space ascii.null_text null t refl in
    let digits : number_before (t ++ one) (after_number (t ++ one))
    ≡ number_before t (after_number t) =
    ap (number_before (t ++ one)) (after_number_space t) ∙ number_space t (after_number t) in
    λ i. cond (h i == ascii.lower_t) (truth i) (cond (h i == ascii.lower_f) (falsity i)
    (cond (h i == ascii.lower_n) (nothing i) (digits i)))

-- ---- tokens

byte_space : (m : Mode) (c : Class) (x : ℕ) (xs : List ℕ) (k l : Mode → List Lexeme)
    → ((n : Mode) → k n ≡ l n) → lex_byte m c x (xs ++ one) k ≡ lex_byte m c x xs l
byte_space between quote x xs k l same =
    let text = content_space plain xs in λ i. token (string_token (text i)) ∷ same in_string i
byte_space between backslash x xs k l same = ap (λ ls. token bad ∷ ls) (same in_word)
byte_space between operator x xs k l same = ap (λ ls. operator_lexeme x ∷ ls) (same between)
byte_space between space x xs k l same = same between
byte_space between other x xs k l same =
    let first = word_space (x ∷ xs) in λ i. token (first i) ∷ same in_word i
byte_space in_word quote x xs k l same = same in_word
byte_space in_word backslash x xs k l same = same in_word
byte_space in_word operator x xs k l same = ap (λ ls. operator_lexeme x ∷ ls) (same between)
byte_space in_word space x xs k l same = same between
byte_space in_word other x xs k l same = same in_word
byte_space in_string quote x xs k l same = same between
byte_space in_string backslash x xs k l same = same in_escape
byte_space in_string operator x xs k l same = same in_string
byte_space in_string space x xs k l same = same in_string
byte_space in_string other x xs k l same = same in_string
byte_space in_escape c x xs k l same = same in_string

lex_space : (m : Mode) (xs : List ℕ) → lex m (xs ++ one) ≡ lex m xs
unfolding lex
lex_space between [] = refl
lex_space in_word [] = refl
lex_space in_string [] = refl
lex_space in_escape [] = refl
lex_space m (x ∷ xs) =
    byte_space m (class x) x xs (λ next. lex next (xs ++ one)) (λ next. lex next xs)
    (λ next. lex_space next xs)

read_space : (text : List ℕ) → read (text ++ one) ≡ read text
read_space text =
    ap (λ ls. option_and_then of_json (option_and_then (λ p. json.if_last p.0 p.1)
    (json.value max_depth (punctuate fresh ls)))) (lex_space between text)

-- ---- texts

utf8_one : IsUtf8 one
utf8_one = IsUtf8-from_ascii one (λ i. ascii_one i)
  where
    ascii_one : (i : ℕ) → slice_index one i < 128
    ascii_one zero = omega arith
    ascii_one (suc i) = omega arith

utf8_before : (text : List ℕ) → IsUtf8 (text ++ one) → IsUtf8 text
utf8_before text is =
    subst IsUtf8 (take-append_seam text one)
    (IsUtf8-take (text ++ one) (length text) is
    (IsCharBoundary-at_seam (text ++ one) text one refl utf8_one))

one_more : (text : List ℕ) (d : Data) → Reads (text ++ one) d ↔ Reads text d
one_more text d = (
  λ reads. (utf8_before text reads.0, sym (read_space text) ∙ reads.1),
  λ reads. (IsUtf8-append text one reads.0 utf8_one, read_space text ∙ reads.1),
)

pub spaces_behind : SpacesBehind
spaces_behind zero text d =
    let same = append-nil text in (
      λ reads. subst (λ t. Reads t d) same reads,
      λ reads. subst (λ t. Reads t d) (sym same) reads,
    )
spaces_behind (suc n) text d =
    let same : (text ++ one) ++ replicate n 32 ≡ text ++ replicate (suc n) 32 =
    append_assoc text one (replicate n 32) in
    let more = spaces_behind n (text ++ one) d in
    let last = one_more text d in (
      λ reads. last.0 (more.0 (subst (λ t. Reads t d) (sym same) reads)),
      λ reads. subst (λ t. Reads t d) same (more.1 (last.1 reads)),
    )
