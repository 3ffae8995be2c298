-- What was noted of a source's failures, and whether a failure is held.
use Rattle.std.proofs.Common.{◌≡◌, ◌⊎◌, ℕ, List, [], ◌∷◌, Result, Ok, Err, refl, sym, subst}
use Rattle.std.proofs.Common.{inl, inr, ◌∙◌}
use Rattle.std.specs.Prelude.{Option, Some, None}
use Rattle.std.specs.Option.{option_to_list}
use Rattle.std.specs.declared.alloc.Global.{Global}
use Rattle.std.specs.declared.rc.Rc.{Rc}
use Rattle.gltf_glb.specs.declared.error.Error.{Error}
use Rattle.gltf_glb.specs.declared.error.Error.TheVariants as error
use Rattle.gltf_names.specs.Named.{Named}
use Rattle.gltf_buffers.specs.declared.data.Data.{Data}
use Rattle.gltf_buffers.specs.Buffers.{BufferFault, Source, name_at}
use Rattle.gltf_buffers.specs.Each.{failed_name}
use Rattle.gltf_buffers.specs.Errors.{FailsOrNames, IsUnanswered}
use Rattle.gltf_buffers.specs.Names.{Names}
use Rattle.gltf_shared.specs.Asked.{Notes}
use Rattle.gltf_shared.specs.Given.{held_at, NoneFailed, Puts}
use Rattle.gltf_shared.specs.declared.held.Held.{Held}
use Rattle.gltf_shared.proofs.Put.{named_cases}

-- ---- whether a failure is held

pub none_yet : (held : Held) → ((name : Named) → held_at held name ≡ None) → NoneFailed held
none_yet held empty name is = let none = empty name in cc

pub none_put : (old new : Held) (name : Named) (bytes : List ℕ) → NoneFailed old
    → Puts old new name (Some bytes) → NoneFailed new
none_put old new name bytes none put other is = elim (named_cases other name) [
  | inl e ↦
      let there : held_at new name ≡ Some None =
      subst (λ (n : Named). held_at new n ≡ Some None) e is in
      let has = put.same in
      cc
  | inr ne ↦ none other (sym (put.others other ne) ∙ is)
]

-- ---- what was noted

pub notes_weaker : {X : Type 0} (Q R : Named → Type 0) (held : Held) (answer : Result X Error)
    (old new : List Named) → ((name : Named) → Q name → R name) → Notes Q held answer old new
    → Notes R held answer old new
notes_weaker Q R held (Ok x) old new leads noted = noted
notes_weaker Q R held (Err (error.Io cause)) old new leads noted =
    (noted.0, leads noted.0 noted.1, noted.2)
notes_weaker Q R held (Err error.Memory) old new leads noted = tt
notes_weaker Q R held (Err e) old new leads noted = noted

-- the one name is that which a URI leads to
pub named_leads : (uri : Option (List ℕ)) (name : Named) → name_at uri ≡ Some name
    → (other : Named) → other ≡ name → name_at uri ≡ Some other
named_leads uri name leads other is = subst (λ (n : Named). name_at uri ≡ Some n) (sym is) leads

-- the source was asked, and did not answer
pub unanswered : (names : Names) (name : Named) (held : Held) (old new : List Named) (e : Error)
    → IsUnanswered names name old new e
    → Notes {X = Rc Data Global} (λ other. other ≡ name) held (Err e) old new
unanswered names name held old new (error.Io cause) told = (name, refl, inl told.1)
unanswered names name held old new error.ExternalReferenceInSliceImport told = told.1
unanswered names name held old new error.Memory told = tt
unanswered names name held old new e told = absurd told

-- the error says nothing of a source
pub not_asked : (P : BufferFault → Type 0) (Q R : Named → Type 0) (held : Held)
    (before after noted : List Named) (e : Error) → ((name : Named) → Q name → ⊥)
    → FailsOrNames P Q before after e
    → Notes {X = Rc Data Global} R held (Err e) noted noted
not_asked P Q R held before after noted (error.Io cause) never fails =
    absurd (never fails.0 fails.1)
not_asked P Q R held before after noted error.Memory never fails = tt
not_asked P Q R held before after noted e never fails = refl

-- ---- the first error of all buffers

one_name : (P : BufferFault → Type 0) (Q : Named → Type 0) (s : Source) (held : Held)
    (old new : List Named) → NoneFailed held
    → ((name : Named) × Q name × (option_to_list (name_at s.uri) ≡ name ∷ []))
    → ((name : Named) × (name_at s.uri ≡ Some name)
    × ((new ≡ name ∷ old) ⊎ ((held_at held name ≡ Some None) × (new ≡ old))))
    → (name : Named) × Q name × (new ≡ name ∷ old)
one_name P Q s held old new none fails noted =
    let there : noted.0 ∷ [] ≡ fails.0 ∷ [] = rw noted.1 at fails.2 in
    let same : fails.0 ≡ noted.0 = cc in
    elim noted.2 [
      | inl is ↦ (noted.0, subst Q same fails.1, is)
      | inr was ↦ absurd (none noted.0 was.0)
    ]

-- where no failure was held, the source has noted the name that failed
pub first_noted : (P : BufferFault → Type 0) (Q : Named → Type 0) (s : Source) (held : Held)
    (old new : List Named) (e : Error) → NoneFailed held
    → FailsOrNames P Q [] (option_to_list (failed_name s (Err e))) e
    → Notes {X = Rc Data Global} (λ name. name_at s.uri ≡ Some name) held (Err e) old new
    → (e ≡ error.Memory) ⊎ FailsOrNames P Q old new e
first_noted P Q s held old new (error.Io cause) none fails noted =
    inr (one_name P Q s held old new none fails noted)
first_noted P Q s held old new error.Memory none fails noted = inl refl
first_noted P Q s held old new e none fails noted = inr (noted, fails.1)
