-- What a row of a table reads as a text is what an image has there: lemmas.
use Rattle.std.proofs.Common.{◌≡◌, Option, Some, None, sym, ap, option_map, String, Global}
use Rattle.std.proofs.Common.{string_bytes}
use Rattle.std.specs.Prelude.{MatchOption, option_and_then}
use Rattle.serde_json.specs.Data.{Data, null, boolean, number, string, array, object}
use Rattle.serde_json.specs.Find.{as_str}
use Rattle.gltf_json_record.specs.Member.{unless_null}

text_there : (e : Data) (f : Option (String Global))
    → MatchOption f ⊥ (λ t. as_str e ≡ Some (string_bytes t)) → as_str e ≡ option_map string_bytes f
text_there e None is = absurd is
text_there e (Some t) is = is

pub text_read : (o : Option Data) (f : Option (String Global))
    → MatchOption (option_and_then unless_null o) (f ≡ None)
    (λ e. MatchOption f ⊥ (λ t. as_str e ≡ Some (string_bytes t)))
    → option_and_then as_str o ≡ option_map string_bytes f
text_read None f is = sym (ap (option_map string_bytes) is)
text_read (Some null) f is = sym (ap (option_map string_bytes) is)
text_read (Some (boolean b)) f is = text_there (boolean b) f is
text_read (Some (number n)) f is = text_there (number n) f is
text_read (Some (string s)) f is = text_there (string s) f is
text_read (Some (array ds)) f is = text_there (array ds) f is
text_read (Some (object ms)) f is = text_there (object ms) f is
