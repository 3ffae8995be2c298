-- What is answered for a name: from what is held, and where the source is asked.
use Rattle.std.proofs.Common.{ℕ, ◌≡◌, List, refl, sym, ap, ◌∙◌, inr}
use Rattle.std.specs.Prelude.{Option, Some, None, is_some}
use Rattle.std.specs.declared.alloc.Global.{Global}
use Rattle.std.specs.declared.rc.Rc.{Rc}
use Rattle.std.specs.declared.io.ErrorKind.{ErrorKind}
use Rattle.gltf_names.specs.Named.{Named}
use Rattle.gltf_buffers.specs.declared.data.Data.{Data}
use Rattle.gltf_buffers.specs.Names.{Names, Gives}
use Rattle.gltf_buffers.specs.Padding.{padded}
use Rattle.gltf_shared.specs.Given.{given_bytes, held_at, IsSound, IsFilled, Puts}
use Rattle.gltf_shared.specs.Given.{AsksOrHolds}
use Rattle.gltf_shared.specs.declared.held.Given.{Given}
use Rattle.gltf_shared.specs.declared.held.Given.TheVariants as given
use Rattle.gltf_shared.specs.declared.held.Held.{Held}
use Rattle.gltf_shared.proofs.Put.{sound_put}

-- ---- from what is held

bytes_at : (held : Held) (name : Named) (it : Given) (buffer : Rc Data Global)
    → Some (given_bytes it) ≡ held_at held name → it ≡ given.Bytes buffer
    → held_at held name ≡ Some (Some buffer.value.0.items)
bytes_at held name it buffer at is = sym at ∙ ap (λ g. Some (given_bytes g)) is

pub held_ok : (names : Names) (held : Held) (name : Named) (it : Given)
    (buffer copy : Rc Data Global) → IsSound names held → Some (given_bytes it) ≡ held_at held name
    → it ≡ given.Bytes buffer → copy.value ≡ buffer.value
    → IsFilled names name copy.value.0.items
held_ok names held name it buffer copy sound at is same =
    rw same (sound name (Some buffer.value.0.items) (bytes_at held name it buffer at is))

pub held_fits : (held : Held) (name : Named) (it : Given) (buffer copy : Rc Data Global)
    → Some (given_bytes it) ≡ held_at held name → it ≡ given.Bytes buffer
    → copy.value ≡ buffer.value → held_at held name ≡ Some (Some copy.value.0.items)
held_fits held name it buffer copy at is same = rw same (bytes_at held name it buffer at is)

pub failure_at : (held : Held) (name : Named) (it : Given) (kind : ErrorKind)
    → Some (given_bytes it) ≡ held_at held name → it ≡ given.Failed kind
    → held_at held name ≡ Some None
failure_at held name it kind at is = sym at ∙ ap (λ g. Some (given_bytes g)) is

-- ---- where the source is asked

pub asked_ok : (names : Names) (name : Named) (raw bytes : List ℕ) → Gives names name raw
    → bytes ≡ padded raw → IsFilled names name bytes
asked_ok names name raw bytes gives same = (raw, gives, same)

pub asked_sound : (names : Names) (old new : Held) (name : Named) (raw : List ℕ)
    → IsSound names old → Puts old new name (Some (padded raw)) → Gives names name raw
    → IsSound names new
asked_sound names old new name raw sound put gives =
    sound_put names old new name (Some (padded raw)) sound put (raw, gives, refl)

pub asked_fits : (old new : Held) (name : Named) (raw bytes : List ℕ)
    → Puts old new name (Some (padded raw)) → bytes ≡ padded raw
    → held_at new name ≡ Some (Some bytes)
asked_fits old new name raw bytes put same = rw same put.same

pub asks_new : {S : Type 0} (asks : S → Named → S → Type 0) (name : Named) (old new : Held)
    (before after : S) (given : Option (List ℕ)) → held_at old name ≡ None
    → Puts old new name given → asks before name after
    → AsksOrHolds asks name old new before after
asks_new asks name old new before after given none put asked =
    inr (none, ap is_some put.same, asked)
