-- Bytes that are refused are not accepted, where no name can be asked for: whatever else is
-- accepted has the sources and the blob of the one document (`also_read`), and a buffer has one
-- result (`one_result`). The premises (`Law`) are laws of `gltf_json` and `gltf_rules`.
use Rattle.std.proofs.Common.{ℕ, ◌≡◌, List, [], ◌∷◌, length, map, get_or, refl, sym, ◌∙◌}
use Rattle.std.proofs.Common.{ap, arith, suc, inl, inr, Result, Ok, Err}
use Rattle.std.specs.Prelude.{IfNone, MatchOption, Option, Some, None, slice_get, ⊤}
use Rattle.std.specs.List.{AllByRecursion}
use Rattle.std.proofs.lemmas.Option.{slice_get_cases, slice_get_within}
use Rattle.gltf_glb.specs.declared.error.Error.{Error}
use Rattle.gltf_glb.specs.declared.error.Error.TheVariants as error
use Rattle.gltf_json_geometry.specs.Buffers.{buffer}
use Rattle.gltf_json_geometry.specs.declared.buffer.Buffer.{Buffer}
use Rattle.gltf_json.specs.Alike.{AreAlikeInEachMember}
use Rattle.gltf_json.specs.Documents.{root}
use Rattle.gltf_json.specs.declared.root.Root.{Root}
use Rattle.gltf_names.specs.Named.{Named}
use Rattle.gltf_validation.specs.Documents.{Faults}
use Rattle.gltf_buffers.specs.Uri.{Meaning, uri_of}
use Rattle.gltf_buffers.specs.Uri as uri
use Rattle.gltf_buffers.specs.Buffers.{Source, BufferFault, source_of, sources_of, bytes_outside}
use Rattle.gltf_buffers.specs.Buffers.{meant_bytes, raw_bytes, filled_bytes, checked_bytes}
use Rattle.gltf_buffers.specs.Buffers.{bytes_of, name_at, IsBytesOf, blob_for, AreBytes}
use Rattle.gltf_buffers.specs.Each.{AreAnswers}
use Rattle.gltf_buffers.specs.Errors.{FailsOrNames}
use Rattle.gltf_buffers.specs.ErrorLaws.{named_fault}
use Rattle.gltf_buffers.specs.Names.{Nowhere, MayBeGiven, name_of}
use Rattle.gltf.specs.Import.{IsOnlyDocument, Accepts, IsNotAccepted}
use Rattle.gltf_inspect_files.specs.Buffers.{buffers_findings, SaysSomething}
use Rattle.gltf_inspect_files.specs.Reports.{Found}
use Rattle.gltf_inspect_files.specs.Reports.{IsOfRefused}

-- ---- what documents that show the same say of their buffers

map_through : {A B C : Type 0} (f : A → B) (g : B → C) (h : A → C) (xs ys : List A)
    → ((x : A) → h x ≡ g (f x)) → map f xs ≡ map f ys → map h xs ≡ map h ys
map_through f g h [] [] same e = refl
map_through f g h [] (y ∷ ys) same e = cc
map_through f g h (x ∷ xs) [] same e = cc
map_through f g h (x ∷ xs) (y ∷ ys) same e =
    let first : f x ≡ f y = cc in
    let rest : map f xs ≡ map f ys = cc in
    let head : h x ≡ h y = same x ∙ ap g first ∙ sym (same y) in
    rw (head, map_through f g h xs ys same rest) refl

source_seen : buffer.Content → Source
unfolding buffer
source_seen v = record { declared = v.0; uri = v.1.0 }

source_is_seen : (b : Buffer) → source_of b ≡ source_seen (buffer.content b)
unfolding buffer source_seen
source_is_seen b = refl

sources_alike : (r s : Root) → AreAlikeInEachMember r s → sources_of r ≡ sources_of s
sources_alike r s same = map_through buffer.content source_seen source_of r.buffers.items
    s.buffers.items source_is_seen same.buffers

-- ---- the bytes of buffers

-- nothing is given for a name
meant_alike : (meaning : Meaning) (g h : Option (List ℕ)) → MayBeGiven Nowhere (name_of meaning) g
    → MayBeGiven Nowhere (name_of meaning) h → meant_bytes g meaning ≡ meant_bytes h meaning
meant_alike (uri.Payload text) g h p q = refl
meant_alike uri.Unsupported g h p q = refl
meant_alike (uri.File text) g h p q = ap bytes_outside (p ∙ sym q)
meant_alike (uri.Relative text) g h p q = ap bytes_outside (p ∙ sym q)

raw_alike : (blob uri : Option (List ℕ)) (g h : Option (List ℕ))
    → MayBeGiven Nowhere (name_at uri) g → MayBeGiven Nowhere (name_at uri) h
    → raw_bytes g blob uri ≡ raw_bytes h blob uri
raw_alike blob None g h p q = refl
raw_alike blob (Some text) g h p q = meant_alike (uri_of text) g h p q

-- a buffer's bytes, or its fault, are one thing
one_result : (blob : Option (List ℕ)) (i : ℕ) (source : Source)
    (x y : Result (List ℕ) BufferFault) → IsBytesOf Nowhere blob i source x
    → IsBytesOf Nowhere blob i source y → x ≡ y
unfolding bytes_of
one_result blob i source x y p q =
    sym p.is
    ∙ ap (λ r. checked_bytes i source.declared (filled_bytes r))
    (raw_alike blob source.uri p.given q.given p.may q.may)
    ∙ q.is

-- where a buffer has its bytes, no error of it says anything
no_error : (P : BufferFault → Type 0) (Q : Named → Type 0) (old new : List Named) (e : Error)
    → ((fault : BufferFault) → P fault → ⊥) → ((name : Named) → Q name → ⊥)
    → SaysSomething (Err e) → FailsOrNames P Q old new e → ⊥
no_error P Q old new (error.Io cause) none never says told = never told.0 told.1
no_error P Q old new error.Memory none never says told = says
no_error P Q old new e none never says told =
    let named = named_fault P e told.1 in none named.0 named.1

-- ---- the answers of all

-- the answer is no error
abbrev IsFine : Result (List ℕ) Error → Type 0
IsFine (Ok bytes) = ⊤
IsFine (Err e) = ⊥

none_found : (i : ℕ) (answers : List (Result (List ℕ) Error))
    → AllByRecursion SaysSomething answers
    → ((k : ℕ) (answer : Result (List ℕ) Error) → slice_get answers k ≡ Some answer
    → SaysSomething answer → IsFine answer)
    → buffers_findings i answers ≡ []
none_found i [] told fine = refl
none_found i (Ok bytes ∷ answers) told fine =
    none_found (suc i) answers told.1 (λ k answer at. fine (suc k) answer at)
none_found i (Err e ∷ answers) told fine = absurd (fine 0 (Err e) refl told.0)

answer_fine : (sources : List Source) (blob : Option (List ℕ)) (buffers : List (List ℕ))
    (answers : List (Result (List ℕ) Error)) (k : ℕ) (source : Source)
    (answer : Result (List ℕ) Error)
    → AreAnswers Nowhere sources blob (length sources) answers
    → AreBytes Nowhere sources blob (length sources) buffers
    → slice_get sources k ≡ Some source → slice_get answers k ≡ Some answer
    → SaysSomething answer → IsFine answer
answer_fine sources blob buffers answers k source (Ok bytes) are had there at says = tt
answer_fine sources blob buffers answers k source (Err e) are had there at says =
    no_error (λ fault. IsBytesOf Nowhere (blob_for sources blob k) k source (Err fault)) _ [] _ e
    (λ fault wrong.
    let same : Ok (get_or buffers k []) ≡ Err fault =
    one_result (blob_for sources blob k) k source (Ok (get_or buffers k [])) (Err fault)
    (had.each k source (slice_get_within sources k source there) there) wrong in
    cc)
    (λ name leads. leads.0) says (are.each k source (Err e) there at)

no_buffer_fails : (sources : List Source) (blob : Option (List ℕ)) (buffers : List (List ℕ))
    (answers : List (Result (List ℕ) Error))
    → AreAnswers Nowhere sources blob (length sources) answers
    → AreBytes Nowhere sources blob (length sources) buffers
    → AllByRecursion SaysSomething answers → buffers_findings 0 answers ≡ []
no_buffer_fails sources blob buffers answers are had told =
    none_found 0 answers told (λ k answer at says.
    elim ((slice_get_cases sources k).1) [
      | inl found ↦ answer_fine sources blob buffers answers k found.0 answer are had found.2
          at says
      | inr past ↦ absurd (omega (
        arith,
        past.0,
        are.count,
        slice_get_within answers k answer at,
      ))
    ])

-- ---- the whole

-- the premises: documents that show the same are alike in each member, and break the same rules
pub record Law : Type 0 where
  pub alike : (r s : Root) → root.content r ≡ root.content s → AreAlikeInEachMember r s
  pub rules : (r s : Root) → root.content r ≡ root.content s → Faults r ≡ Faults s

also_read : Law → (bytes : List ℕ) (r s : Root) (blob : Option (List ℕ))
    (buffers : List (List ℕ)) → IsOnlyDocument bytes r blob → Accepts bytes s buffers
    → AreBytes Nowhere (sources_of r) blob (length (sources_of r)) buffers
also_read law bytes r s blob buffers only accepted =
    let same = only s accepted.blob accepted.valid.document in
    let sources = sources_alike s r (law.alike s r same.0) in
    rw (sources, same.1) at accepted.data_

pub not_accepted : Law → (bytes : List ℕ) (cause : Option Error) (found : Found)
    → IsOfRefused Nowhere bytes cause found → IsNotAccepted bytes
not_accepted law bytes (Some cause) found is = λ s buffers accepted.
    is.none s accepted.blob accepted.valid.document
not_accepted law bytes None found (inl is) = λ s buffers accepted.
    let same = is.only s accepted.blob accepted.valid.document in
    is.broken (sym (law.rules s is.root same.0) ∙ accepted.valid.rules)
not_accepted law bytes None found (inr is) = λ s buffers accepted.
    is.some (no_buffer_fails (sources_of is.root) is.blob buffers is.answers is.each
    (also_read law bytes is.root s is.blob buffers is.only accepted) is.told)

-- ---- a file that was looked at

pub of_none : {T : Type 0} (P : T → Type 0) (Q R : Type 0) (o : Option T) → (Q → R)
    → MatchOption o Q P → IfNone o R
of_none P Q R None leads is = leads is
of_none P Q R (Some x) leads is = tt
