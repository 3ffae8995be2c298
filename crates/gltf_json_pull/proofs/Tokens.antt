-- Tokens, by what they stand for.
use Rattle.std.proofs.Common.{◌≡◌, refl}
use Rattle.json.specs.Token as spec
use Rattle.json.specs.Reads.{token_of}
use Rattle.json.specs.declared.token.Token.{Token}
use Rattle.json.specs.declared.token.Token.TheVariants.{BeginObject, EndObject, BeginArray}
use Rattle.json.specs.declared.token.Token.TheVariants.{EndArray, Key, String, Number, Bool}
use Rattle.json.specs.declared.token.Token.TheVariants.{Null, Bad}

-- a token other than Null does not stand for null
pub not_null_token : (t : Token) → (t ≡ Null → ⊥) → token_of t ≡ spec.null → ⊥
not_null_token BeginObject other e = absurd (cc)
not_null_token EndObject other e = absurd (cc)
not_null_token BeginArray other e = absurd (cc)
not_null_token EndArray other e = absurd (cc)
not_null_token (Key s) other e = absurd (cc)
not_null_token (String s) other e = absurd (cc)
not_null_token (Number s) other e = absurd (cc)
not_null_token (Bool b) other e = absurd (cc)
not_null_token Null other e = other refl
not_null_token Bad other e = absurd (cc)
