-- What is accepted without a copy of its blob: for the contracts of `trial`.
use Rattle.std.proofs.Common.{◌≡◌, ℕ, zero, suc, ◌-◌, ◌%◌, ◌<◌, ◌≤◌, List, [], ◌∷◌, length}
use Rattle.std.proofs.Common.{get_or, replicate, Option, Some, None, Ok, false, nat_lt, refl, sym}
use Rattle.std.proofs.Common.{ap, subst, ◌∙◌, arith, length-append, inl, inr}
use Rattle.std.specs.Prelude.{slice_get, map, option_map, is_some, string_bytes}
use Rattle.std.specs.declared.alloc.Global.{Global}
use Rattle.std.specs.declared.string.String.{String}
use Rattle.gltf_json_geometry.specs.declared.buffer.Buffer.{Buffer}
use Rattle.gltf_glb.specs.declared.error.Error.{Error}
use Rattle.gltf_glb.specs.declared.error.Error.TheVariants as error
use Rattle.gltf_json.specs.declared.root.Root.{Root}
use Rattle.gltf_names.specs.Named.{Named}
use Rattle.gltf_buffers.specs.Buffers.{Source, source_of, sources_of, AreBytes, bytes_of, name_at}
use Rattle.gltf_buffers.specs.Buffers.{checked_bytes, filled_bytes, raw_bytes, blob_for, IsBytesOf}
use Rattle.gltf_buffers.specs.Buffers.{HasBufferFault, IsAskedFor}
use Rattle.gltf_buffers.specs.Errors.{FailsOrNames}
use Rattle.gltf_buffers.specs.Names.{Nowhere, MayBeGiven}
use Rattle.gltf_buffers.specs.Padding.{padded}
use Rattle.gltf.specs.Errors.{OutOfMemoryOr}
use Rattle.gltf_required.specs.Import.{IsOpenedAs, IsValidAs, RefusesDocumentAs, RefusesImportAs}
use Rattle.gltf_required.specs.Left.{same_sources}
use Rattle.gltf_required.specs.declared.required.Required.{Required}
use Rattle.gltf_bundle.specs.Bundle.{IsAcceptedAs}
use Rattle.gltf_bundle.proofs.Sourced.{whole_bytes}

-- ---- the one buffer

not_below : (m n : ℕ) → n ≤ m → nat_lt m n ≡ false
not_below m n h = grind arith

no_shorter : (bytes : List ℕ) → length bytes ≤ length (padded bytes)
unfolding padded
no_shorter bytes =
    let both = length-append bytes (replicate ((4 - length bytes % 4) % 4) 0) in omega arith

of_some : {A : Type 0} (x y : A) → ◌≡◌ {A = Option A} (Some x) (Some y) → x ≡ y
of_some x y same = cc

its_bytes : (s : Source) (blob : List ℕ) → s.uri ≡ None → s.declared ≤ length blob
    → bytes_of None (blob_for (s ∷ []) (Some blob) 0) 0 s ≡ Ok (padded blob)
unfolding bytes_of blob_for
its_bytes s blob no_uri enough =
    let more = no_shorter blob in
    let fine : nat_lt (length (padded blob)) s.declared ≡ false =
    not_below (length (padded blob)) s.declared (omega arith) in
    ap (λ (u : Option (List ℕ)).
    checked_bytes 0 s.declared (filled_bytes (raw_bytes None (Some blob) u))) no_uri
    ∙ rw fine refl

each : (s : Source) (blob : List ℕ) → s.uri ≡ None → s.declared ≤ length blob → (i : ℕ)
    (source : Source) → i < 1 → slice_get (s ∷ []) i ≡ Some source
    → IsBytesOf Nowhere (blob_for (s ∷ []) (Some blob) i) i source
    (Ok (get_or (padded blob ∷ []) i []))
each s blob no_uri enough (suc i) source below there = absurd (omega arith)
each s blob no_uri enough zero source below there =
    subst (λ (x : Source). IsBytesOf Nowhere (blob_for (s ∷ []) (Some blob) 0) 0 x
    (Ok (padded blob))) (of_some s source there)
    (record {
      given = None;
      may = subst (λ (u : Option (List ℕ)). MayBeGiven Nowhere (name_at u) None) (sym no_uri) tt;
      is = its_bytes s blob no_uri enough;
    })

pub the_blob : (s : Source) (blob : List ℕ) → s.uri ≡ None → s.declared ≤ length blob
    → AreBytes Nowhere (s ∷ []) (Some blob) 1 (padded blob ∷ [])
the_blob s blob no_uri enough = record { count = refl; each = each s blob no_uri enough }

no_text : (uri : Option (String Global)) → is_some uri ≡ false → option_map string_bytes uri ≡ None
no_text None is = refl
no_text (Some text) is = cc

-- there is one, and it is no longer than the blob
pub one_blob : (buffers : List Buffer) (b : Buffer) (blob : Option (List ℕ)) (bytes : List ℕ)
    → 1 ≤ length buffers → length buffers < 2 → b ≡ get_or buffers 0 b → blob ≡ Some bytes
    → is_some b.uri ≡ false → b.byte_length ≤ length bytes
    → (all : List (List ℕ)) × AreBytes Nowhere (map source_of buffers) blob
    (length (map source_of buffers)) all
one_blob [] b blob bytes some few is there no_uri enough = absurd (omega arith)
one_blob (x ∷ y ∷ buffers) b blob bytes some few is there no_uri enough = absurd (omega arith)
one_blob (x ∷ []) b blob bytes some few is there no_uri enough = (
  padded bytes ∷ [],
  subst (λ (y : Buffer). AreBytes Nowhere (source_of y ∷ []) blob 1 (padded bytes ∷ [])) is
      (subst (λ (o : Option (List ℕ)).
      AreBytes Nowhere (source_of b ∷ []) o 1 (padded bytes ∷ [])) (sym there)
      (the_blob (source_of b) bytes (no_text b.uri no_uri) enough)),
)

-- ---- what is accepted, and what is not

valid_of : (required : Required) (bytes : List ℕ) (left : Root) (blob : Option (List ℕ))
    (opened : IsOpenedAs required bytes left blob) → IsValidAs required bytes opened.root blob
valid_of required bytes left blob opened = record {
  document = opened.document;
  left = left;
  is_left = opened.is_left;
  rules = opened.rules;
}

pub is_accepted : (required : Required) (bytes : List ℕ) (left : Root) (blob : Option (List ℕ))
    (all : List (List ℕ)) → IsOpenedAs required bytes left blob
    → AreBytes Nowhere (sources_of left) blob (length (sources_of left)) all
    → IsAcceptedAs required bytes
is_accepted required bytes left blob all opened are = (
  opened.root,
  all,
  record {
    blob = blob;
    valid = valid_of required bytes left blob opened;
    data_ = whole_bytes required Nowhere bytes left blob opened all are;
  },
)

pub document_told : (required : Required) (bytes : List ℕ) (e : Error)
    → OutOfMemoryOr (RefusesDocumentAs required bytes) e
    → OutOfMemoryOr (RefusesImportAs required Nowhere bytes) e
document_told required bytes error.Memory told = tt
document_told required bytes e told = inl told

abbrev pub FailsWith : Root → Option (List ℕ) → List Named → List Named → Error → Type 0
FailsWith r blob old new e =
    FailsOrNames (HasBufferFault Nowhere (sources_of r) blob)
    (IsAskedFor Nowhere (sources_of r) blob) old new e

told_of : (required : Required) (bytes : List ℕ) (r : Root) (blob : Option (List ℕ))
    (old new : List Named) (e : Error) → IsValidAs required bytes r blob
    → FailsWith r blob old new e → OutOfMemoryOr (RefusesImportAs required Nowhere bytes) e
told_of required bytes r blob old new (error.Io cause) valid fails = absurd fails.1.leads.0
told_of required bytes r blob old new error.Memory valid fails = tt
told_of required bytes r blob old new e valid fails =
    inr (record { root = r; blob = blob; valid = valid; fails = fails.1 })

pub buffers_told : (required : Required) (bytes : List ℕ) (left : Root) (blob : Option (List ℕ))
    (old new : List Named) (e : Error) → IsOpenedAs required bytes left blob
    → FailsWith left blob old new e → OutOfMemoryOr (RefusesImportAs required Nowhere bytes) e
buffers_told required bytes left blob old new e opened fails =
    told_of required bytes opened.root blob old new e (valid_of required bytes left blob opened)
    (subst (λ (xs : List Source).
    FailsOrNames (HasBufferFault Nowhere xs blob) (IsAskedFor Nowhere xs blob) old new e)
    (same_sources required opened.root left opened.is_left) fails)
