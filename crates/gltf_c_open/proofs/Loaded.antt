-- Where no buffer may wait, the bytes of buffers that are kept are those that the loader imports
-- (`imported`); and where zeros count too, it does not import a buffer that is refused
-- (`loader_fault`). Both go by whether a buffer's bytes are enough.
use Rattle.std.proofs.Common.{◌≡◌, ◌<◌, ◌≤◌, ◌+◌, ◌-◌, ◌%◌, ◌∙◌, ℕ, Bool, true, false, List, []}
use Rattle.std.proofs.Common.{length, get_or, refl, sym, ap, true≢false, arith, Result, Ok, Err}
use Rattle.std.proofs.lemmas.Bool.{le-ltb, lt-ltb, leb-true, leb-false}
use Rattle.std.proofs.lemmas.List.{length-append, length-replicate}
use Rattle.std.specs.Prelude.{Option, Some, None, replicate, nat_lt, if◌then◌else◌}
use Rattle.gltf_names.specs.Named.{Named}
use Rattle.gltf_buffers.specs.Buffers.{Source, BufferFault, BadPayload, NoBlob, External, NoScheme}
use Rattle.gltf_buffers.specs.Buffers.{TooShort, raw_bytes, filled_bytes, checked_bytes, bytes_of}
use Rattle.gltf_buffers.specs.Buffers.{blob_for, name_at, AreBytes, HasBufferFault}
use Rattle.gltf_buffers.specs.Names.{Nowhere, MayBeGiven}
use Rattle.gltf_buffers.specs.Padding.{padded}
use Rattle.gltf_c_open.specs.Buffers.{judged, IsKept, HaveOrAwait, HasFault}
use Rattle.gltf_c_open.specs.Lengths.{is_enough}
use Rattle.gltf_c_open.specs.declared.wanted.Wanted.{Wanted}

-- ---- whether there are enough bytes

length_padded : (bytes : List ℕ)
    → length (padded bytes) ≡ length bytes + (4 - length bytes % 4) % 4
unfolding padded
length_padded bytes =
    length-append bytes (replicate ((4 - length bytes % 4) % 4) 0)
    ∙ ap (λ k. length bytes + k) (length-replicate ((4 - length bytes % 4) % 4) 0)

enough : (exact : Bool) (declared n : ℕ) → is_enough exact declared n ≡ true
    → declared ≤ n + (4 - n % 4) % 4
enough true declared n is = let le = leb-true declared (n + 0) is in omega (arith, le)
enough false declared n is = leb-true declared (n + (4 - n % 4) % 4) is

too_few : (exact : Bool) (declared n : ℕ) → exact ≡ false → is_enough exact declared n ≡ false
    → n + (4 - n % 4) % 4 < declared
too_few true declared n counted is = absurd (true≢false counted)
too_few false declared n counted is = leb-false declared (n + (4 - n % 4) % 4) is

-- ---- one buffer

-- the loader has these bytes too
long : (may_wait exact : Bool) (i declared : ℕ) (bytes d : List ℕ) (w b : Bool)
    → is_enough exact declared (length bytes) ≡ b
    → IsKept may_wait (if b then Ok (padded bytes) else Err (TooShort i declared (length bytes)))
    d w
    → checked_bytes i declared (filled_bytes (Ok bytes)) ≡ Ok d
long may_wait exact i declared bytes d w true is kept =
    let size = length_padded bytes in
    let le = enough exact declared (length bytes) is in
    let fine : nat_lt (length (padded bytes)) declared ≡ false =
    le-ltb (length (padded bytes)) declared (omega (arith, size, le)) in
    rw (fine, kept.0) refl
long may_wait exact i declared bytes d w false is kept = absurd kept

loads : (may_wait exact : Bool) (i declared : ℕ) (raw : Result (List ℕ) BufferFault) (d : List ℕ)
    (w : Bool) → may_wait ≡ false → IsKept may_wait (judged exact i declared raw) d w
    → checked_bytes i declared (filled_bytes raw) ≡ Ok d
loads may_wait exact i declared (Ok bytes) d w none kept =
    long may_wait exact i declared bytes d w (is_enough exact declared (length bytes)) refl kept
loads may_wait exact i declared (Err External) d w none kept =
    absurd (true≢false (sym kept.0 ∙ none))
loads may_wait exact i declared (Err (BadPayload cause)) d w none kept = absurd kept
loads may_wait exact i declared (Err NoBlob) d w none kept = absurd kept
loads may_wait exact i declared (Err NoScheme) d w none kept = absurd kept
loads may_wait exact i declared (Err (TooShort a b c)) d w none kept = absurd kept

not_both : (bytes : List ℕ) (fault : BufferFault)
    → (let one : Result (List ℕ) BufferFault = Ok bytes in one ≡ Err fault) → ⊥
not_both bytes fault is = cc

-- the loader has a fault too
short : (exact : Bool) (i declared : ℕ) (bytes : List ℕ) (fault : BufferFault) (b : Bool)
    → exact ≡ false → is_enough exact declared (length bytes) ≡ b
    → (if b then Ok (padded bytes) else Err (TooShort i declared (length bytes))) ≡ Err fault
    → (f : BufferFault) × (checked_bytes i declared (filled_bytes (Ok bytes)) ≡ Err f)
short exact i declared bytes fault true counted is wrong =
    absurd (not_both (padded bytes) fault wrong)
short exact i declared bytes fault false counted is wrong =
    let size = length_padded bytes in
    let less = too_few exact declared (length bytes) counted is in
    let few : nat_lt (length (padded bytes)) declared ≡ true =
    lt-ltb (length (padded bytes)) declared (omega (arith, size, less)) in
    (TooShort i declared (length (padded bytes)), rw few refl)

faults : (exact : Bool) (i declared : ℕ) (raw : Result (List ℕ) BufferFault) (fault : BufferFault)
    → exact ≡ false → judged exact i declared raw ≡ Err fault
    → (f : BufferFault) × (checked_bytes i declared (filled_bytes raw) ≡ Err f)
faults exact i declared (Ok bytes) fault counted wrong =
    short exact i declared bytes fault (is_enough exact declared (length bytes)) counted refl wrong
faults exact i declared (Err e) fault counted wrong = (e, refl)

-- ---- all buffers

nothing_given : (name : Option Named) → MayBeGiven Nowhere name None
nothing_given None = tt
nothing_given (Some name) = refl

pub imported : (wanted : Wanted) (sources : List Source) (blob : Option (List ℕ)) (n : ℕ)
    (buffers : List (List ℕ)) (waiting : List Bool) → wanted.may_wait ≡ false
    → HaveOrAwait wanted sources blob n buffers waiting → AreBytes Nowhere sources blob n buffers
unfolding bytes_of
imported wanted sources blob n buffers waiting none all = record {
  count = all.count;
  each = λ i s l at. record {
    given = None;
    may = nothing_given (name_at s.uri);
    is = loads wanted.may_wait wanted.exact i s.declared
        (raw_bytes None (blob_for sources blob i) s.uri) (get_or buffers i [])
        (get_or waiting i false) none (all.each i s l at);
  };
}

pub loader_fault : (wanted : Wanted) (sources : List Source) (blob : Option (List ℕ)) (index : ℕ)
    (fault : BufferFault) → wanted.may_wait ≡ false → wanted.exact ≡ false
    → HasFault wanted sources blob index fault
    → (f : BufferFault) × HasBufferFault Nowhere sources blob f
unfolding bytes_of
loader_fault wanted sources blob index fault none counted wrong =
    let s = wrong.source in
    let found = faults wanted.exact index s.declared
    (raw_bytes None (blob_for sources blob index) s.uri) fault counted wrong.wrong.0 in (
      found.0,
      record {
        index = index;
        before = wrong.before;
        fine = imported wanted sources blob index wrong.before wrong.waiting none wrong.fine;
        source = s;
        there = wrong.there;
        wrong = record { given = None; may = nothing_given (name_at s.uri); is = found.1 };
      },
    )
