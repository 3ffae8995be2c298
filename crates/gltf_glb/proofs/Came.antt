-- From the bytes that came out of a reader to the answers of `read_bytes` and `Glb::from_reader`.
-- The main lemma is `stopped`: where the reading did not reach the declared end, no more came than
-- is needed, and the error names the fault of what came. It goes by cases on the error and on
-- whether the header is refused or what follows it is cut off, by `decided_*` and `ends_*` of
-- `ReaderLaws`. `taken` is the answer over a whole container, by `decided_whole`, and
-- `read_behind_none` the contract.
use Rattle.std.proofs.Common.{◌≡◌, ℕ, ◌≤◌, ◌<◌, List, [], ◌∷◌, length, not, ◌==◌, Bool, true, false}
use Rattle.std.proofs.Common.{nat_lt, Option, Some, None, Result, Ok, Err, OnOk, refl, sym, subst}
use Rattle.std.proofs.Common.{inl, inr, arith}
use Rattle.std.specs.Prelude.{IfOk, IfErr, MatchResult, is_none}
use Rattle.std.proofs.lemmas.Bool.{lt-ltb}
use Rattle.std.specs.Str.{bytes_eq}
use Rattle.std.specs.Cow.{cow_slice_items}
use Rattle.gltf_stream.specs.Streams.{ReadsBehind}
use Rattle.gltf_glb.specs.Bytes.{word_at, tag_at, magic}
use Rattle.gltf_glb.specs.Faults.{Fault, Short, NotMagic, WrongVersion, WrongLength, first_row}
use Rattle.gltf_glb.specs.Faults.{front_fault}
use Rattle.gltf_glb.specs.Front.{IsFaultOnTheWay, IsWhole}
use Rattle.gltf_glb.specs.Glb.{RefusesOrRunsOut, IsTakenFrom, items_of}
use Rattle.gltf_glb.specs.Reader.{needed_length, IsReadBy, RefusesReader, ReadsContainer}
use Rattle.gltf_glb.specs.Reading.{Decides}
use Rattle.gltf_glb.specs.ReadingLaws.{names_whole}
use Rattle.gltf_glb.specs.Steps.{fault_of}
use Rattle.gltf_glb.specs.declared.binary.Error.TheVariants as binary
use Rattle.gltf_glb.specs.declared.binary.glb.Glb.{Glb}
use Rattle.gltf_glb.specs.declared.error.Error.{Error}
use Rattle.gltf_glb.specs.declared.error.Error.TheVariants as refusal
use Rattle.gltf_glb.proofs.ReaderLaws.{decided_front, decided_magic, decided_whole, ends_front}
use Rattle.gltf_glb.proofs.ReaderLaws.{ends_behind}

-- ---- how many bytes are needed

third : (a b : Bool) (f g h : Fault) (rows : List (Bool × Option Fault))
    → is_none (first_row ((a, Some f) ∷ (b, Some g) ∷ (true, Some h) ∷ rows)) ≡ false
third true b f g h rows = refl
third false true f g h rows = refl
third false false f g h rows = refl

needed_header : (came : List ℕ) → length came < 12 → needed_length came ≡ 12
unfolding front_fault
needed_header came short =
    let twelve : nat_lt (length came) 12 ≡ true = lt-ltb (length came) 12 short in
    let none : is_none (front_fault came) ≡ false =
    rw twelve (third (nat_lt (length came) 4) (not (bytes_eq (tag_at 0 came) magic)) Short
    (NotMagic (tag_at 0 came)) Short
    ((not (word_at 4 came == 2), Some (WrongVersion (word_at 4 came)))
    ∷ (nat_lt (word_at 8 came) 12, Some (WrongLength (word_at 8 came) 12)) ∷ [])) in
    rw none refl

needed_refused : (came : List ℕ) (fault : Fault) → front_fault came ≡ Some fault
    → needed_length came ≡ 12
needed_refused came fault is = rw is refl

needed_total : (came : List ℕ) → front_fault came ≡ None → needed_length came ≡ word_at 8 came
needed_total came is = rw is refl

all_needed : (came : List ℕ) → IsWhole came → length came ≤ needed_length came
all_needed came whole =
    let n = needed_total came whole.0 in let e = whole.1 in omega arith

-- ---- the answers

-- what a reading that did not come to the declared end says of the bytes that came
stopped : (came : List ℕ) (e : Error) → IsFaultOnTheWay came e
    → (length came ≤ needed_length came) × RefusesReader came e
stopped came (refusal.Binary (binary.Io cause)) (inl (few, is)) =
    let n = needed_refused came _ is in (omega arith, ends_front came is)
stopped came (refusal.Binary (binary.Io cause)) (inr (why, (none, less))) =
    let n = needed_total came none in (omega arith, ends_behind came none less)
stopped came (refusal.Binary (binary.Version version)) (inl (long, is)) =
    let n = needed_refused came _ is in
    (omega arith, decided_front came (WrongVersion version) (omega arith) is)
stopped came (refusal.Binary (binary.Magic tag)) (inl (long, is, other)) =
    let n = needed_header came (omega arith) in (
      omega arith,
      subst (λ (t : List ℕ). Decides came (Err (NotMagic t))) (sym is)
          (decided_magic came (omega arith) other),
    )
stopped came (refusal.Binary (binary.Length total length_read)) (inl (long, is)) =
    let n = needed_refused came _ is in
    (omega arith, decided_front came (WrongLength total length_read) (omega arith) is)
stopped came refusal.Memory (inl few) =
    let n = needed_header came few in (omega arith, tt)
stopped came refusal.Memory (inr (why, (none, less))) =
    let n = needed_total came none in (omega arith, tt)
stopped came _ (inl never) = absurd never
stopped came _ (inr (why, cut)) = absurd why

pub needed_all : (came : List ℕ) (result : Result Unit Error) → OnOk result (IsWhole came)
    → IfErr result (IsFaultOnTheWay came) → length came ≤ needed_length came
needed_all came (Ok done) whole fault = all_needed came whole
needed_all came (Err e) whole fault = (stopped came e fault).0

pub refused_all : (came : List ℕ) (result : Result Unit Error)
    → IfErr result (IsFaultOnTheWay came) → IfErr result (RefusesReader came)
refused_all came (Ok done) fault = tt
refused_all came (Err e) fault = (stopped came e fault).1

-- the fault of a whole container
refused : (came : List ℕ) (e : Error) → IsWhole came → RefusesOrRunsOut came e
    → RefusesReader came e
refused came (refusal.Binary cause) whole is =
    names_whole came cause (decided_whole came (Err (fault_of cause)) whole is)
refused came refusal.Memory whole is = tt
refused came _ whole is = absurd is

-- the answer over a whole container
pub taken : (came : List ℕ) (result : Result Glb Error) → IsWhole came
    → IfOk result (IsTakenFrom came) → IfErr result (RefusesOrRunsOut came)
    → MatchResult result (IsReadBy came) (RefusesReader came)
taken came (Ok glb) whole is fault = record {
  parts = decided_whole came (Ok (cow_slice_items glb.json, items_of glb.bin)) whole is.parts;
  header = is.header;
  whole = whole.1;
}
taken came (Err e) whole is fault = refused came e whole fault

-- what a reader gave after no bytes is what came, and decides the answer
pub read_behind_none : {before after : Option (List ℕ)} {old : List ℕ} {result : Result Glb Error}
    (came : List ℕ) → old ≡ [] → ReadsBehind before after old came
    → length came ≤ needed_length came
    → MatchResult result (IsReadBy came) (RefusesReader came) → ReadsContainer before after result
read_behind_none came empty (read, lost, is) within answer =
    record { came = came; reads = rw (is, empty) lost; within = within; answer = answer }
