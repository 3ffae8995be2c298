-- The lexemes of a text without a backslash: a name in them stands with its quotes in the text.
use Rattle.std.proofs.Common.{◌≡◌, ℕ, List, [], ◌∷◌, ◌++◌, Bool, true, false, cond, ◌==◌, refl}
use Rattle.std.proofs.Common.{ap, subst, Option, Some, None, unwrap_or}
use Rattle.std.proofs.lemmas.Bool.{true≢false, eqb-true}
use Rattle.std.specs.List.{starts_with}
use Rattle.std.specs.Prelude.{⊤, nat_lt, nat_eq, ◌&&◌, ◌-◌, length, take, drop}
use Rattle.json.specs.Token.{Token, begin_object, end_object, begin_array, end_array, key, string}
use Rattle.json.specs.Token.{number, boolean, null, bad}
use Rattle.json.specs.Text.{content, plain, after_backslash, prepend}
use Rattle.json.specs.Word.{word, number_before, after_number, literal, ends_word, head}
use Rattle.json.specs.Word.{is_operator, is_space}
use Rattle.json.specs.Ascii as ascii
use Rattle.json.specs.Lex.{Lexeme, token, comma, colon, Class, quote, backslash, operator, space}
use Rattle.json.specs.Lex.{other, class, string_token, Mode, between, in_word}
use Rattle.json.specs.Lex.{in_string, in_escape, lex_byte, lex}
use Rattle.gltf_json_keys.specs.Keys.{in_quotes}

-- a text begins with these bytes
abbrev pub Begins : List ℕ → List ℕ → Type 0
Begins [] xs = ⊤
Begins (a ∷ as_) [] = ⊥
Begins (a ∷ as_) (x ∷ xs) = (x ≡ a) × Begins as_ xs

abbrev pub NoSlash : List ℕ → Type 0
NoSlash [] = ⊤
NoSlash (x ∷ xs) = ((x == 92) ≡ false) × NoSlash xs

-- these bytes stand nowhere in a text
abbrev pub Absent : List ℕ → List ℕ → Type 0
Absent bytes [] = ⊤
Absent bytes (x ∷ xs) = (Begins bytes (x ∷ xs) → ⊥) × Absent bytes xs

-- ---- the content of a string

none_is_some : {A : Type 0} (a : A) → None ≡ Some a → ⊥
none_is_some a e = cc

ends_with_quote : (q b s : Bool) (x : ℕ) (xs k : List ℕ) (escaped rest : Option (List ℕ))
    → (q ≡ true → x ≡ 34) → b ≡ false
    → ((m : List ℕ) → rest ≡ Some m → Begins (m ++ 34 ∷ []) xs)
    → cond q (Some []) (cond b escaped (cond s None (prepend (x ∷ []) rest))) ≡ Some k
    → Begins (k ++ 34 ∷ []) (x ∷ xs)
ends_with_quote true b s x xs k escaped rest is_quote plain_ later e =
    subst (λ (m : List ℕ). Begins (m ++ 34 ∷ []) (x ∷ xs)) (ap (λ o. unwrap_or o []) e)
    (is_quote refl, tt)
ends_with_quote false true s x xs k escaped rest is_quote plain_ later e =
    absurd (true≢false plain_)
ends_with_quote false false true x xs k escaped rest is_quote plain_ later e =
    absurd (none_is_some k e)
ends_with_quote false false false x xs k escaped None is_quote plain_ later e =
    absurd (none_is_some k e)
ends_with_quote false false false x xs k escaped (Some m) is_quote plain_ later e =
    subst (λ (n : List ℕ). Begins (n ++ 34 ∷ []) (x ∷ xs)) (ap (λ o. unwrap_or o []) e)
    (refl, later m refl)

-- what a string holds stands before its closing quote
begins : (xs k : List ℕ) → NoSlash xs → content plain xs ≡ Some k → Begins (k ++ 34 ∷ []) xs
unfolding content
begins [] k clean e = absurd (none_is_some k e)
begins (x ∷ xs) k clean e =
    ends_with_quote (x == 34) (x == 92) (nat_lt x 32) x xs k (content after_backslash xs)
    (content plain xs) (eqb-true x 34) clean.0 (λ m. begins xs m clean.1) e

-- ---- lexemes

module _ (k : List ℕ) where
  -- the token is no string k
  abbrev pub IsNot : Token → Type 0
  IsNot begin_object = ⊤
  IsNot end_object = ⊤
  IsNot begin_array = ⊤
  IsNot end_array = ⊤
  IsNot (key s) = s ≡ k → ⊥
  IsNot (string s) = s ≡ k → ⊥
  IsNot (number s) = ⊤
  IsNot (boolean b) = ⊤
  IsNot null = ⊤
  IsNot bad = ⊤

  abbrev pub NoneIs : List Lexeme → Type 0
  NoneIs [] = ⊤
  NoneIs (token t ∷ ls) = IsNot t × NoneIs ls
  NoneIs (comma ∷ ls) = NoneIs ls
  NoneIs (colon ∷ ls) = NoneIs ls

  either : (b : Bool) (s t : Token) → IsNot s → IsNot t → IsNot (cond b s t)
  either true s t p q = p
  either false s t p q = q

  number_is_not : (t : List ℕ) (o : Option (List ℕ)) → IsNot (number_before t o)
  number_is_not t None = tt
  number_is_not t (Some rest) =
      either (ends_word rest) (number (take (length t - length rest) t)) bad tt tt

  literal_is_not : (name : List ℕ) (s : Token) (t : List ℕ) → IsNot s → IsNot (literal name s t)
  literal_is_not name s t is =
      either (starts_with nat_eq t name && ends_word (drop (length name) t)) s bad is tt

  word_is_not : (t : List ℕ) → IsNot (word t)
  unfolding word
  word_is_not t =
      either (head t == ascii.lower_t) (literal ascii.true_text (boolean true) t)
      (cond (head t == ascii.lower_f) (literal ascii.false_text (boolean false) t)
      (cond (head t == ascii.lower_n) (literal ascii.null_text null t)
      (number_before t (after_number t))))
      (literal_is_not ascii.true_text (boolean true) t tt)
      (either (head t == ascii.lower_f) (literal ascii.false_text (boolean false) t)
      (cond (head t == ascii.lower_n) (literal ascii.null_text null t)
      (number_before t (after_number t)))
      (literal_is_not ascii.false_text (boolean false) t tt)
      (either (head t == ascii.lower_n) (literal ascii.null_text null t)
      (number_before t (after_number t)) (literal_is_not ascii.null_text null t tt)
      (number_is_not t (after_number t))))

  string_is_not : (o : Option (List ℕ)) → (o ≡ Some k → ⊥) → IsNot (string_token o)
  string_is_not None never = tt
  string_is_not (Some s) never = λ e. never (ap Some e)

  operators : (a b c d e : Bool) (ls : List Lexeme) → NoneIs ls
      → NoneIs (cond a (token begin_object) (cond b (token end_object)
      (cond c (token begin_array) (cond d (token end_array) (cond e comma colon)))) ∷ ls)
  operators true b c d e ls none = (tt, none)
  operators false true c d e ls none = (tt, none)
  operators false false true d e ls none = (tt, none)
  operators false false false true e ls none = (tt, none)
  operators false false false false true ls none = none
  operators false false false false false ls none = none

  byte_holds : (m : Mode) (c : Class) (x : ℕ) (xs : List ℕ) (go : Mode → List Lexeme)
      → (c ≡ quote → IsNot (string_token (content plain xs)))
      → ((next : Mode) → NoneIs (go next)) → NoneIs (lex_byte m c x xs go)
  byte_holds between quote x xs go named rest = (named refl, rest in_string)
  byte_holds between backslash x xs go named rest = (tt, rest in_word)
  byte_holds between operator x xs go named rest =
      operators (x == ascii.open_brace) (x == ascii.close_brace) (x == ascii.open_bracket)
      (x == ascii.close_bracket) (x == ascii.comma) (go between) (rest between)
  byte_holds between space x xs go named rest = rest between
  byte_holds between other x xs go named rest = (word_is_not (x ∷ xs), rest in_word)
  byte_holds in_word quote x xs go named rest = rest in_word
  byte_holds in_word backslash x xs go named rest = rest in_word
  byte_holds in_word operator x xs go named rest =
      operators (x == ascii.open_brace) (x == ascii.close_brace) (x == ascii.open_bracket)
      (x == ascii.close_bracket) (x == ascii.comma) (go between) (rest between)
  byte_holds in_word space x xs go named rest = rest between
  byte_holds in_word other x xs go named rest = rest in_word
  byte_holds in_string quote x xs go named rest = rest between
  byte_holds in_string backslash x xs go named rest = rest in_escape
  byte_holds in_string operator x xs go named rest = rest in_string
  byte_holds in_string space x xs go named rest = rest in_string
  byte_holds in_string other x xs go named rest = rest in_string
  byte_holds in_escape c x xs go named rest = rest in_string

  class_is_quote : (q b o s : Bool)
      → cond q quote (cond b backslash (cond o operator (cond s space other))) ≡ quote → q ≡ true
  class_is_quote true b o s e = refl
  class_is_quote false true o s e = absurd (cc)
  class_is_quote false false true s e = absurd (cc)
  class_is_quote false false false true e = absurd (cc)
  class_is_quote false false false false e = absurd (cc)

  pub lexemes : (m : Mode) (text : List ℕ) → NoSlash text → Absent (in_quotes k) text
      → NoneIs (lex m text)
  unfolding lex
  lexemes m [] clean absent = tt
  lexemes m (x ∷ xs) clean absent =
      byte_holds m (class x) x xs (λ next. lex next xs)
      (λ is. string_is_not (content plain xs) (λ e.
      absent.0 (
        eqb-true x 34 (class_is_quote (x == 34) (x == 92) (is_operator x) (is_space x) is),
        begins xs k clean.1 e,
      )))
      (λ next. lexemes next xs clean.1 absent.1)
