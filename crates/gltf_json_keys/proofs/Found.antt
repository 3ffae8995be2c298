-- What the two searches of a text say.
use Rattle.std.proofs.Common.{◌≡◌, ◌<◌, ◌≤◌, ◌+◌, ℕ, zero, suc, List, [], ◌∷◌, length, Bool}
use Rattle.std.proofs.Common.{true, false, ◌==◌, refl, ap, ◌∙◌, subst, arith, Option, Some, None}
use Rattle.std.proofs.Common.{true≢false}
use Rattle.std.specs.Prelude.{slice_index, is_some}
use Rattle.memchr.specs.Find.{OccursAt, IsFirstByte, FindsNeedle, is_byte}
use Rattle.serde_json.specs.Data.{Data}
use Rattle.serde_json.specs.Read.{read}
use Rattle.gltf_json_keys.specs.Keys.{Lacks, in_quotes}
use Rattle.gltf_json_keys.proofs.Texts.{Begins, NoSlash, Absent}
use Rattle.gltf_json_keys.proofs.Values.{value_lacks}

not_true : (b : Bool) → (b ≡ true → ⊥) → b ≡ false
not_true true never = absurd (never refl)
not_true false never = refl

no_slash : (xs : List ℕ)
    → ((k : ℕ) → k < length xs → (slice_index xs k == 92) ≡ true → ⊥) → NoSlash xs
no_slash [] never = tt
no_slash (x ∷ xs) never = (
  not_true (x == 92) (never 0 (omega arith)),
  no_slash xs (λ k less. never (suc k) (omega arith)),
)

-- what a text begins with stands at place 0
begins_long : (bytes xs : List ℕ) → Begins bytes xs → length bytes ≤ length xs
begins_long [] xs begins = omega arith
begins_long (a ∷ bytes) [] begins = absurd begins
begins_long (a ∷ bytes) (x ∷ xs) begins = omega (arith, begins_long bytes xs begins.1)

begins_at : (bytes xs : List ℕ) → Begins bytes xs → (j : ℕ) → j < length bytes
    → slice_index xs j ≡ slice_index bytes j
begins_at [] xs begins j less = let never : ⊥ = omega arith in absurd never
begins_at (a ∷ bytes) [] begins j less = absurd begins
begins_at (a ∷ bytes) (x ∷ xs) begins zero less = begins.0
begins_at (a ∷ bytes) (x ∷ xs) begins (suc j) less =
    begins_at bytes xs begins.1 j (omega arith)

occurs_first : (bytes xs : List ℕ) → Begins bytes xs → OccursAt xs bytes 0
occurs_first bytes xs begins = record {
  fits = omega (arith, begins_long bytes xs begins);
  reads = λ j less. let same : 0 + j ≡ j = omega arith in
      ap (slice_index xs) same ∙ begins_at bytes xs begins j less;
}

occurs_later : (x : ℕ) (bytes xs : List ℕ) (k : ℕ) → OccursAt xs bytes k
    → OccursAt (x ∷ xs) bytes (suc k)
occurs_later x bytes xs k occurs = record {
  fits = omega (arith, occurs.fits);
  reads = λ j less. let same : suc k + j ≡ suc (k + j) = omega arith in
      ap (slice_index (x ∷ xs)) same ∙ occurs.reads j less;
}

absent : (bytes xs : List ℕ) → ((k : ℕ) → OccursAt xs bytes k → ⊥) → Absent bytes xs
absent bytes [] never = tt
absent bytes (x ∷ xs) never = (
  λ begins. never 0 (occurs_first bytes (x ∷ xs) begins),
  absent bytes xs (λ k occurs. never (suc k) (occurs_later x bytes xs k occurs)),
)

lacks_found : (text bytes name : List ℕ) (d : Data)
    → IsFirstByte (is_byte 92) text None → FindsNeedle text bytes 0 None → bytes ≡ in_quotes name
    → read text ≡ Some d → Lacks name d
lacks_found text bytes name d slash needle is reads =
    value_lacks name text d (no_slash text (λ k less. slash k (omega arith) less))
    (subst (λ (b : List ℕ). Absent b text) is
    (absent bytes text (λ k occurs. needle k (omega arith) (omega (arith, occurs.fits)) occurs)))
    reads

none_of : {A : Type 0} (o : Option A) → is_some o ≡ false → o ≡ None
none_of None e = refl
none_of (Some a) e = absurd (true≢false e)

-- the same of what the searches return
pub lacks_where_none : (text bytes name : List ℕ) (d : Data) (slash needle : Option ℕ)
    → IsFirstByte (is_byte 92) text slash → FindsNeedle text bytes 0 needle
    → is_some slash ≡ false → is_some needle ≡ false → bytes ≡ in_quotes name
    → read text ≡ Some d → Lacks name d
lacks_where_none text bytes name d slash needle first finds no_slash_ no_needle is reads =
    lacks_found text bytes name d
    (subst (λ (o : Option ℕ). IsFirstByte (is_byte 92) text o) (none_of slash no_slash_) first)
    (subst (λ (o : Option ℕ). FindsNeedle text bytes 0 o) (none_of needle no_needle) finds) is
    reads
