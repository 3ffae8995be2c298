-- A JSON text is no container: none begins with `glTF`.
use Rattle.std.proofs.Common.{◌≡◌, ℕ, List, [], ◌∷◌, Bool, true, false, Option, Some, None, refl}
use Rattle.std.proofs.Common.{sym, ap, ◌∙◌, arith, nat_eq, MatchBool}
use Rattle.std.specs.List.{starts_with}
use Rattle.serde_json.specs.Data.{Data}
use Rattle.serde_json.specs.Read.{read}
use Rattle.json.specs.Json.{value}
use Rattle.json.specs.Lex.{lex, punctuate}
use Rattle.json.specs.Word.{word, after_number}
use Rattle.gltf_glb.specs.Bytes.{magic}
use Rattle.gltf_glb.specs.Container.{IsContainer}
use Rattle.gltf.specs.Import.{AreParts}

no_text : (xs : List ℕ) → read (103 ∷ xs) ≡ None
unfolding lex punctuate word after_number value
no_text xs = refl

same_byte : (a b : ℕ) → nat_eq a b ≡ true → a ≡ b
same_byte a b is = grind arith

begins_at : (b : Bool) (x : ℕ) (xs : List ℕ) (d : Data) → nat_eq 103 x ≡ b
    → read (x ∷ xs) ≡ Some d → starts_with nat_eq (x ∷ xs) magic ≡ false
begins_at true x xs d is reads =
    let gone : read (x ∷ xs) ≡ None =
    ap (λ (y : ℕ). read (y ∷ xs)) (sym (same_byte 103 x is)) ∙ no_text xs in
    let never : ◌≡◌ {A = Option Data} (Some d) None = sym reads ∙ gone in cc
begins_at false x xs d is reads = rw is refl

no_magic : (text : List ℕ) (d : Data) → read text ≡ Some d → starts_with nat_eq text magic ≡ false
no_magic [] d reads = refl
no_magic (x ∷ xs) d reads = begins_at (nat_eq 103 x) x xs d refl reads

text_at : (begins : Bool) (bytes text : List ℕ) (blob : Option (List ℕ)) → begins ≡ false
    → MatchBool begins (IsContainer bytes text blob) ((text ≡ bytes) × (blob ≡ None))
    → text ≡ bytes
text_at true bytes text blob is parts = cc
text_at false bytes text blob is parts = parts.0

pub the_text : (bytes text : List ℕ) (blob : Option (List ℕ)) (d : Data) → read bytes ≡ Some d
    → AreParts bytes text blob → text ≡ bytes
unfolding AreParts
the_text bytes text blob d reads parts =
    text_at (starts_with nat_eq bytes magic) bytes text blob (no_magic bytes d reads) parts
