-- A document has one list of bytes of its buffers where it is known what names hold, and none where
-- a buffer has a fault: `one_buffers` and `no_buffers`. A buffer has one result (`one_bytes`), by
-- cases on what its URI means and on the names.
use Rattle.std.proofs.Common.{ℕ, ◌≡◌, ◌<◌, List, [], ◌∷◌, length, map, get_or, refl, sym, ◌∙◌}
use Rattle.std.proofs.Common.{ap, arith, inl, inr, Result, Ok, Err}
use Rattle.std.specs.Prelude.{Option, Some, None}
use Rattle.std.proofs.lemmas.Option.{slice_get_cases, slice_get_within}
use Rattle.std.proofs.lemmas.List.{ext_get_or}
use Rattle.gltf_json_geometry.specs.Buffers.{buffer}
use Rattle.gltf_json_geometry.specs.declared.buffer.Buffer.{Buffer}
use Rattle.gltf_json.specs.Alike.{AreAlikeInEachMember}
use Rattle.gltf_json.specs.declared.root.Root.{Root}
use Rattle.gltf_buffers.specs.Uri.{Meaning, uri_of}
use Rattle.gltf_buffers.specs.Uri as uri
use Rattle.gltf_buffers.specs.Buffers.{Source, BufferFault, source_of, sources_of, bytes_outside}
use Rattle.gltf_buffers.specs.Buffers.{meant_bytes, raw_bytes, filled_bytes, checked_bytes}
use Rattle.gltf_buffers.specs.Buffers.{bytes_of, name_at, IsBytesOf, blob_for, AreBytes}
use Rattle.gltf_buffers.specs.Buffers.{HasBufferFault}
use Rattle.gltf_buffers.specs.Names.{Names, Nowhere, Anywhere, Held, AreKnown, MayBeGiven, name_of}

-- ---- what documents that show the same say of their buffers

map_through : {A B C : Type 0} (f : A → B) (g : B → C) (h : A → C) (xs ys : List A)
    → ((x : A) → h x ≡ g (f x)) → map f xs ≡ map f ys → map h xs ≡ map h ys
map_through f g h [] [] same e = refl
map_through f g h [] (y ∷ ys) same e = cc
map_through f g h (x ∷ xs) [] same e = cc
map_through f g h (x ∷ xs) (y ∷ ys) same e =
    let first : f x ≡ f y = cc in
    let rest : map f xs ≡ map f ys = cc in
    let head : h x ≡ h y = same x ∙ ap g first ∙ sym (same y) in
    rw (head, map_through f g h xs ys same rest) refl

source_seen : buffer.Content → Source
unfolding buffer
source_seen v = record { declared = v.0; uri = v.1.0 }

source_is_seen : (b : Buffer) → source_of b ≡ source_seen (buffer.content b)
unfolding buffer source_seen
source_is_seen b = refl

pub sources_alike : (r s : Root) → AreAlikeInEachMember r s → sources_of r ≡ sources_of s
sources_alike r s same = map_through buffer.content source_seen source_of r.buffers.items
    s.buffers.items source_is_seen same.buffers

-- ---- one result

-- what may have been given for one name is one thing, where names are known
meant_alike : (names : Names) (meaning : Meaning) (g h : Option (List ℕ)) → AreKnown names
    → MayBeGiven names (name_of meaning) g → MayBeGiven names (name_of meaning) h
    → meant_bytes g meaning ≡ meant_bytes h meaning
meant_alike names (uri.Payload text) g h known p q = refl
meant_alike names uri.Unsupported g h known p q = refl
meant_alike Nowhere (uri.File text) g h known p q = ap bytes_outside (p ∙ sym q)
meant_alike Nowhere (uri.Relative text) g h known p q = ap bytes_outside (p ∙ sym q)
meant_alike Anywhere (uri.File text) g h known p q = absurd known
meant_alike Anywhere (uri.Relative text) g h known p q = absurd known
meant_alike (Held holds) (uri.File text) g h known p q = ap bytes_outside (sym p.1 ∙ q.1)
meant_alike (Held holds) (uri.Relative text) g h known p q = ap bytes_outside (sym p.1 ∙ q.1)

raw_alike : (names : Names) (blob uri : Option (List ℕ)) (g h : Option (List ℕ))
    → AreKnown names → MayBeGiven names (name_at uri) g → MayBeGiven names (name_at uri) h
    → raw_bytes g blob uri ≡ raw_bytes h blob uri
raw_alike names blob None g h known p q = refl
raw_alike names blob (Some text) g h known p q = meant_alike names (uri_of text) g h known p q

one_bytes : (names : Names) (blob : Option (List ℕ)) (i : ℕ) (source : Source)
    (x y : Result (List ℕ) BufferFault) → AreKnown names
    → IsBytesOf names blob i source x → IsBytesOf names blob i source y → x ≡ y
unfolding bytes_of
one_bytes names blob i source x y known p q =
    sym p.is
    ∙ ap (λ r. checked_bytes i source.declared (filled_bytes r))
    (raw_alike names blob source.uri p.given q.given known p.may q.may)
    ∙ q.is

-- ---- all buffers

pub no_buffers : (names : Names) (sources : List Source) (blob : Option (List ℕ))
    (buffers : List (List ℕ)) (fault : BufferFault) → AreKnown names
    → AreBytes names sources blob (length sources) buffers
    → HasBufferFault names sources blob fault → ⊥
no_buffers names sources blob buffers fault known all wrong =
    let there = slice_get_within sources wrong.index wrong.source wrong.there in
    let fine = all.each wrong.index wrong.source there wrong.there in
    let same : Ok (get_or buffers wrong.index []) ≡ Err fault =
    one_bytes names (blob_for sources blob wrong.index) wrong.index wrong.source
    (Ok (get_or buffers wrong.index [])) (Err fault) known fine wrong.wrong in
    cc

ok_once : {A E : Type 0} (a b : A) → (let one : Result A E = Ok a in one ≡ Ok b) → a ≡ b
ok_once a b e = cc

one_at : (names : Names) (sources : List Source) (blob : Option (List ℕ))
    (ds es : List (List ℕ)) → AreKnown names
    → AreBytes names sources blob (length sources) ds
    → AreBytes names sources blob (length sources) es
    → (k : ℕ) → k < length ds → get_or ds k [] ≡ get_or es k []
one_at names sources blob ds es known x y k l =
    let inside_k : k < length sources = omega (arith, x.count) in
    elim ((slice_get_cases sources k).1) [
      | inl found ↦ ok_once {E = BufferFault} (get_or ds k []) (get_or es k [])
          (one_bytes names (blob_for sources blob k) k found.0 (Ok (get_or ds k []))
          (Ok (get_or es k [])) known (x.each k found.0 inside_k found.2)
          (y.each k found.0 inside_k found.2))
      | inr past ↦ absurd (omega (arith, past.0))
    ]

pub one_buffers : (names : Names) (sources : List Source) (blob : Option (List ℕ))
    (ds es : List (List ℕ)) → AreKnown names
    → AreBytes names sources blob (length sources) ds
    → AreBytes names sources blob (length sources) es → ds ≡ es
one_buffers names sources blob ds es known x y =
    ext_get_or [] ds es (x.count ∙ sym y.count) (one_at names sources blob ds es known x y)
