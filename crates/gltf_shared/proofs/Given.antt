-- What is held after a source was asked for one more name.
use Rattle.std.proofs.Common.{ℕ, ◌≡◌, ◌≢◌, Bool, true, false, List, Result, Ok, Err, refl}
use Rattle.std.proofs.Common.{ap}
use Rattle.std.specs.Prelude.{Option, Some, None, option_map, OnOk}
use Rattle.std.specs.Prelude.{if◌then◌else◌}
use Rattle.gltf_glb.specs.declared.error.Error.{Error}
use Rattle.gltf_glb.specs.declared.error.Error.TheVariants as error
use Rattle.gltf_names.specs.Named.{Named, File, Relative}
use Rattle.gltf_buffers.specs.Errors.{IsUnanswered}
use Rattle.gltf_buffers.specs.Names.{Names, Nowhere, Anywhere, Held as HeldNames, CanBeAsked}
use Rattle.gltf_shared.specs.Asked.{UnlessMemory}
use Rattle.gltf_shared.specs.Given.{given_bytes, given_at, held_at, Puts, Fits, IsNotGiven}
use Rattle.gltf_shared.specs.Given.{is_failure}
use Rattle.gltf_shared.specs.declared.held.Given.{Given}
use Rattle.gltf_shared.specs.declared.held.Held.{Held}

-- ---- maps by text

pub chosen_same : (same : Bool) (given : Given) (old : Option Given) → same ≡ true
    → option_map given_bytes (if same then Some given else old) ≡ Some (given_bytes given)
chosen_same true given old is = refl
chosen_same false given old is = cc

pub chosen_other : (same : Bool) (given : Given) (old : Option Given) → same ≡ false
    → option_map given_bytes (if same then Some given else old) ≡ option_map given_bytes old
chosen_other true given old is = cc
chosen_other false given old is = refl

pub not_equal : {P : Type 0} (r : Bool) → (r ≡ true → P) → (P → ⊥) → r ≡ false
not_equal true there differs = absurd (differs (there refl))
not_equal false there differs = refl

other_file : (old new : Held) (text : List ℕ) (other : Named) → new.relatives ≡ old.relatives
    → ((other : List ℕ) → other ≢ text → given_at new.files other ≡ given_at old.files other)
    → other ≢ File text → held_at new other ≡ held_at old other
other_file old new text (File other) same others ne = others other (λ e. ne (ap File e))
other_file old new text (Relative other) same others ne =
    ap (λ map. given_at map other) same

pub file_put : {X E : Type 0} (result : Result X E) (old new : Held) (text : List ℕ)
    (bytes : Option (List ℕ)) → new.relatives ≡ old.relatives
    → OnOk result (given_at new.files text ≡ Some bytes)
    → OnOk result ((other : List ℕ) → other ≢ text
    → given_at new.files other ≡ given_at old.files other)
    → OnOk result (Puts old new (File text) bytes)
file_put (Ok x) old new text bytes same put others = record {
  same = put;
  others = λ other ne. other_file old new text other same others ne;
}
file_put (Err e) old new text bytes same put others = tt

other_relative : (old new : Held) (text : List ℕ) (other : Named) → new.files ≡ old.files
    → ((other : List ℕ) → other ≢ text
    → given_at new.relatives other ≡ given_at old.relatives other)
    → other ≢ Relative text → held_at new other ≡ held_at old other
other_relative old new text (File other) same others ne = ap (λ map. given_at map other) same
other_relative old new text (Relative other) same others ne =
    others other (λ e. ne (ap Relative e))

pub relative_put : {X E : Type 0} (result : Result X E) (old new : Held) (text : List ℕ)
    (bytes : Option (List ℕ)) → new.files ≡ old.files
    → OnOk result (given_at new.relatives text ≡ Some bytes)
    → OnOk result ((other : List ℕ) → other ≢ text
    → given_at new.relatives other ≡ given_at old.relatives other)
    → OnOk result (Puts old new (Relative text) bytes)
relative_put (Ok x) old new text bytes same put others = record {
  same = put;
  others = λ other ne. other_relative old new text other same others ne;
}
relative_put (Err e) old new text bytes same put others = tt

-- ---- errors

pub not_given : (names : Names) (name : Named) (old new : List Named) (e : Error)
    → IsUnanswered names name old new e → IsNotGiven names e
not_given names name old new (error.Io cause) told = told.0
not_given names name old new error.ExternalReferenceInSliceImport told = told.0
not_given names name old new error.Memory told = tt
not_given names name old new e told = told

pub can_be_asked : (names : Names) (name : Named) (old new : List Named) (e : Error)
    → is_failure e ≡ true → IsUnanswered names name old new e → CanBeAsked names
can_be_asked names name old new (error.Io cause) is told = told.0
can_be_asked names name old new e is told = cc

pub fits_failed : (held : Option (Option (List ℕ))) (e : Error) → held ≡ Some None
    → Fits held (Err e)
fits_failed held (error.Io cause) is = is
fits_failed held e is = tt

pub fits_other : (held : Option (Option (List ℕ))) (e : Error) → is_failure e ≡ false
    → Fits held (Err e)
fits_other held (error.Io cause) is = cc
fits_other held e is = tt

pub unless_error : (X : Type 0) (e : Error) (P : Type 0) → P → UnlessMemory {X = X} (Err e) P
unless_error X error.Memory P fact = tt
unless_error X e P fact = fact

nowhere : (names : Names) → names ≡ Nowhere → CanBeAsked names → ⊥
nowhere Nowhere is can = can
nowhere Anywhere is can = cc
nowhere (HeldNames holds) is can = cc

-- where names can be asked for, no other error comes than that the source failed, and want of
-- memory
pub no_other : (X : Type 0) (names : Names) (name : Named) (old new : List Named) (e : Error)
    (P : Type 0) → is_failure e ≡ false → IsUnanswered names name old new e → CanBeAsked names
    → UnlessMemory {X = X} (Err e) P
no_other X names name old new (error.Io cause) P is told can = cc
no_other X names name old new error.ExternalReferenceInSliceImport P is told can =
    absurd (nowhere names told.0 can)
no_other X names name old new error.Memory P is told can = tt
no_other X names name old new e P is told can = absurd told
