-- What is held of a name is the data of each URI that leads to the name.
use Rattle.std.proofs.Common.{ℕ, ◌≡◌, List, [], ◌∷◌, Result, Ok, Err, refl, sym, ap}
use Rattle.std.specs.Prelude.{Option, Some, None, IfOk, IfErr}
use Rattle.std.specs.declared.alloc.Global.{Global}
use Rattle.std.specs.declared.rc.Rc.{Rc}
use Rattle.gltf_glb.specs.declared.error.Error.{Error}
use Rattle.gltf_glb.specs.declared.error.Error.TheVariants as error
use Rattle.gltf_names.specs.Named.{Named}
use Rattle.gltf_buffers.specs.declared.data.Data.{Data}
use Rattle.gltf_buffers.specs.Buffers.{External, IsDataOf, LeadsTo, name_at}
use Rattle.gltf_buffers.specs.Buffers.{meant_bytes, filled_bytes}
use Rattle.gltf_buffers.specs.Errors.{FailsOrNames}
use Rattle.gltf_buffers.specs.Names.{Names, Nowhere, Anywhere, Held, Gives, MayBeGiven, name_of}
use Rattle.gltf_buffers.specs.Uri.{Meaning, Payload, File, Relative, Unsupported, uri_of}
use Rattle.gltf_shared.specs.Given.{IsFilled, IsNotGiven, Fits, held_at}
use Rattle.gltf_shared.specs.declared.held.Held.{Held as HeldOf}

named_bytes : (m : Meaning) (name : Named) → name_of m ≡ Some name → (given : List ℕ)
    → meant_bytes (Some given) m ≡ Ok given
named_bytes (Payload text) name is given = cc
named_bytes (File text) name is given = refl
named_bytes (Relative text) name is given = refl
named_bytes Unsupported name is given = cc

named_outside : (m : Meaning) (name : Named) → name_of m ≡ Some name
    → meant_bytes None m ≡ Err External
named_outside (Payload text) name is = cc
named_outside (File text) name is = refl
named_outside (Relative text) name is = refl
named_outside Unsupported name is = cc

may_be : (names : Names) (name : Named) (bytes : List ℕ) → Gives names name bytes
    → MayBeGiven names (Some name) (Some bytes)
may_be Nowhere name bytes gives = absurd gives
may_be Anywhere name bytes gives = refl
may_be (Held holds) name bytes gives = (refl, gives)

nothing_may_be : (names : Names) (name : Named) → names ≡ Nowhere
    → MayBeGiven names (Some name) None
nothing_may_be Nowhere name is = refl
nothing_may_be Anywhere name is = cc
nothing_may_be (Held holds) name is = cc

pub data_ok : (names : Names) (blob uri : Option (List ℕ)) (name : Named) (bytes : List ℕ)
    → name_at uri ≡ Some name → IsFilled names name bytes → IsDataOf names blob uri (Ok bytes)
data_ok names blob None name bytes leads filled = cc
data_ok names blob (Some text) name bytes leads filled = record {
  given = Some filled.0;
  may = rw leads (may_be names name filled.0 filled.1);
  is = rw filled.2 (ap filled_bytes (named_bytes (uri_of text) name leads filled.0));
}

data_outside : (names : Names) (blob uri : Option (List ℕ)) (name : Named)
    → name_at uri ≡ Some name → names ≡ Nowhere → IsDataOf names blob uri (Err External)
data_outside names blob None name leads is = cc
data_outside names blob (Some text) name leads is = record {
  given = None;
  may = rw leads (nothing_may_be names name is);
  is = ap filled_bytes (named_outside (uri_of text) name leads);
}

pub data_err : (names : Names) (blob uri : Option (List ℕ)) (name : Named) (e : Error)
    → name_at uri ≡ Some name → IsNotGiven names e
    → (failed : List Named) × FailsOrNames (λ fault. IsDataOf names blob uri (Err fault))
    (LeadsTo names uri) [] failed e
data_err names blob uri name (error.Io cause) leads not = (name ∷ [], (name, (not, leads), refl))
data_err names blob uri name error.ExternalReferenceInSliceImport leads not =
    ([], (refl, data_outside names blob uri name leads not))
data_err names blob uri name error.Memory leads not = ([], refl)
data_err names blob uri name e leads not = absurd not

-- ---- of a result, where the text of the URI and its meaning are told apart

pub leads_by : (uri : Option (List ℕ)) (text : List ℕ) (m : Meaning) (name : Named)
    → uri ≡ Some text → m ≡ uri_of text → name_of m ≡ Some name → name_at uri ≡ Some name
leads_by uri text m name at means is = rw (at, sym means) is

pub data_if_ok : (names : Names) (blob uri : Option (List ℕ)) (name : Named)
    (read : Result (Rc Data Global) Error) → name_at uri ≡ Some name
    → IfOk read (λ buffer. IsFilled names name buffer.value.0.items)
    → IfOk read (λ buffer. IsDataOf names blob uri (Ok buffer.value.0.items))
data_if_ok names blob uri name (Ok buffer) leads filled =
    data_ok names blob uri name buffer.value.0.items leads filled
data_if_ok names blob uri name (Err e) leads filled = tt

pub data_if_err : (names : Names) (blob uri : Option (List ℕ)) (name : Named)
    (read : Result (Rc Data Global) Error) → name_at uri ≡ Some name
    → IfErr read (IsNotGiven names)
    → IfErr read (λ e. (failed : List Named) × FailsOrNames
    (λ fault. IsDataOf names blob uri (Err fault)) (LeadsTo names uri) [] failed e)
data_if_err names blob uri name (Ok buffer) leads not = tt
data_if_err names blob uri name (Err e) leads not = data_err names blob uri name e leads not

pub data_fits : (uri : Option (List ℕ)) (name : Named) (then : HeldOf)
    (answer : Result (List ℕ) Error) → name_at uri ≡ Some name → Fits (held_at then name) answer
    → (other : Named) → name_at uri ≡ Some other → Fits (held_at then other) answer
data_fits uri name then answer leads fits other is =
    let same : name ≡ other = cc in
    rw (sym same) fits
