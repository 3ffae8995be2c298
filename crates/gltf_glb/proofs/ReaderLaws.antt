-- Bytes that come from a reader have one reading: `one_reader_reading` proves the law of that name,
-- by the four cases of container and fault. Then bytes that decide, whatever comes after them: a
-- refused header (`decided_front`), four bytes that are not `glTF` (`decided_magic`), and as many
-- bytes as are declared (`decided_whole`, the law `whole_bytes_decide`). Each rests on what more
-- bytes keep: `front_kept` and `magic_kept` of `Fronts`, `container_more`, `body_kept`.
-- `ends_front` and `ends_behind` are for bytes that end too early. `Came` uses both.
use Rattle.std.proofs.Common.{◌≡◌, ℕ, ◌+◌, ◌≤◌, ◌<◌, List, ◌++◌, length, take, drop, Bool}
use Rattle.std.proofs.Common.{true, false, nat_lt, Option, Some, None, Ok, Err, refl, sym, ap}
use Rattle.std.proofs.Common.{subst, inl, inr, ◌∙◌, arith, length-append, append_assoc}
use Rattle.std.proofs.Common.{if◌then◌else◌}
use Rattle.std.proofs.lemmas.Bool.{le-ltb, lt-ltb}
use Rattle.std.specs.Option.{option_or}
use Rattle.std.proofs.Math.Seq.{take-append_seam, take-length}
use Rattle.std.specs.Str.{bytes_eq}
use Rattle.gltf_glb.specs.Front.{IsWhole}
use Rattle.gltf_glb.proofs.TheLaws.{container_reads, no_fault, one_fault, one_reading}
use Rattle.gltf_glb.specs.Bytes.{word, word_at, tag_at, magic, headed}
use Rattle.gltf_glb.specs.Faults.{Fault, Short, NotMagic, header_fault, front_fault, reader_fault}
use Rattle.gltf_glb.specs.Container.{IsContainer, HasFault, HasReaderFault, HasBodyFault, body_of}
use Rattle.gltf_glb.specs.Reading.{Reading, IsReadingOf, HasReaderReading, IsReaderReadingOf}
use Rattle.gltf_glb.specs.Reading.{Decides}
use Rattle.gltf_glb.proofs.Fronts.{front_kept, total_kept, magic_kept, header_of_front}
use Rattle.gltf_glb.proofs.Fronts.{front_of_header}

-- the fault of the bytes, where no row of the reader's table fits
plain_fault : (bytes : List ℕ) (fault : Fault) → reader_fault bytes ≡ None
    → HasBodyFault (body_of bytes) fault → HasFault bytes fault
plain_fault bytes fault none body = inr (header_of_reader bytes none, body)
  where
    both : (front : Option Fault) (b : Bool) → option_or front (if b then Some Short else None) ≡
        None → (front ≡ None) × (b ≡ false)
    both None true e = cc
    both None false e = (refl, refl)
    both (Some f) b e = cc

    header_of_reader : (bytes : List ℕ) → reader_fault bytes ≡ None → header_fault bytes ≡ None
    header_of_reader bytes none =
        let parts = both (front_fault bytes) (nat_lt (length bytes) (word_at 8 bytes)) none in
        header_of_front bytes parts.0 parts.1

-- no row of the reader's table fits where none of the slice's does
pub reader_of_header : (bytes : List ℕ) → header_fault bytes ≡ None → reader_fault bytes ≡ None
reader_of_header bytes none =
    let parts = front_of_header bytes none in
    rw (parts.0, parts.1) refl

no_reader_fault : (bytes json : List ℕ) (bin : Option (List ℕ)) (fault : Fault)
    → IsContainer bytes json bin → HasReaderFault bytes fault → ⊥
no_reader_fault bytes json bin fault is (inl some) = let none =
    reader_of_header bytes (container_reads bytes json bin is).0 in cc
no_reader_fault bytes json bin fault is (inr body) =
    no_fault bytes json bin fault is (plain_fault bytes fault body.0 body.1)

one_reader_fault : (bytes : List ℕ) (f g : Fault) → HasReaderFault bytes f
    → HasReaderFault bytes g → f ≡ g
one_reader_fault bytes f g (inl p) (inl q) = let e : Some f ≡ Some g = sym p ∙ q in cc
one_reader_fault bytes f g (inl p) (inr q) = let e = q.0 in cc
one_reader_fault bytes f g (inr p) (inl q) = let e = p.0 in cc
one_reader_fault bytes f g (inr p) (inr q) =
    one_fault bytes f g (plain_fault bytes f p.0 p.1) (plain_fault bytes g q.0 q.1)

pub one_reader_reading : (bytes : List ℕ) (one other : Reading) → HasReaderReading bytes one
    → HasReaderReading bytes other → one ≡ other
one_reader_reading bytes (Ok x) (Ok y) p q = one_reading bytes (Ok x) (Ok y) p q
one_reader_reading bytes (Ok x) (Err g) p q = absurd (no_reader_fault bytes x.0 x.1 g p q)
one_reader_reading bytes (Err f) (Ok y) p q = absurd (no_reader_fault bytes y.0 y.1 f q p)
one_reader_reading bytes (Err f) (Err g) p q = ap Err (one_reader_fault bytes f g p q)

the_reading : (bytes : List ℕ) (reading : Reading) → HasReaderReading bytes reading
    → IsReaderReadingOf bytes reading
the_reading bytes reading has = record {
  has = has;
  only = λ other also. one_reader_reading bytes other reading also has;
}

-- ---- bytes that decide, whatever comes after them

pub decided_front : (came : List ℕ) (fault : Fault) → 12 ≤ length came
    → front_fault came ≡ Some fault → Decides came (Err fault)
decided_front came fault long is rest =
    the_reading (came ++ rest) (Err fault) (inl (rw (front_kept came rest long, is) refl))

pub decided_magic : (came : List ℕ) → 4 ≤ length came → bytes_eq (tag_at 0 came) magic ≡ false
    → Decides came (Err (NotMagic (tag_at 0 came)))
decided_magic came long other rest =
    the_reading (came ++ rest) (Err (NotMagic (tag_at 0 came)))
    (inl (rw (magic_kept came rest long other) refl))

container_more : (came json : List ℕ) (bin : Option (List ℕ)) (rest : List ℕ)
    → IsContainer came json bin → IsContainer (came ++ rest) json bin
unfolding word
container_more came json bin rest is = record {
  body = is.body;
  past = is.past ++ rest;
  fits = is.fits;
  whole = ap (λ (t : List ℕ). t ++ rest) is.whole ∙ ap
      (λ (t : List ℕ). headed (12 + length is.body) t) (append_assoc is.body is.past rest);
  parts = is.parts;
}

body_kept : (came rest : List ℕ) → IsWhole came → body_of (came ++ rest) ≡ body_of came
body_kept came rest whole =
    let here : body_of came ≡ drop 12 came = ap (λ (n : ℕ). drop 12 (take n came)) (sym whole.1)
    ∙ ap (drop 12) (take-length came) in
    ap (λ (n : ℕ). drop 12 (take n (came ++ rest))) (total_kept came rest whole.2 ∙ sym whole.1)
    ∙ ap (drop 12) (take-append_seam came rest) ∙ sym here

whole_reader : (came rest : List ℕ) → IsWhole came → reader_fault (came ++ rest) ≡ None
whole_reader came rest whole =
    let total : word_at 8 (came ++ rest) ≡ length came = total_kept came rest whole.2
    ∙ sym whole.1 in
    let room : nat_lt (length (came ++ rest)) (word_at 8 (came ++ rest)) ≡ false =
    le-ltb (length (came ++ rest)) (word_at 8 (came ++ rest))
    (omega (arith, length-append came rest)) in
    rw (front_kept came rest whole.2, whole.0, room) refl

whole_header : (came : List ℕ) → IsWhole came → header_fault came ≡ None
whole_header came whole =
    header_of_front came whole.0 (le-ltb (length came) (word_at 8 came) (let e = whole.1 in
    omega arith))

whole_fault : (came : List ℕ) (fault : Fault) (rest : List ℕ) → IsWhole came
    → HasFault came fault → HasReaderFault (came ++ rest) fault
whole_fault came fault rest whole (inl some) = let none = whole_header came whole in cc
whole_fault came fault rest whole (inr body) =
    inr (
      whole_reader came rest whole,
      subst (λ (b : List ℕ). HasBodyFault b fault) (sym (body_kept came rest whole)) body.1,
    )

pub decided_whole : (came : List ℕ) (reading : Reading) → IsWhole came → IsReadingOf came reading
    → Decides came reading
decided_whole came (Ok parts) whole is rest =
    the_reading (came ++ rest) (Ok parts) (container_more came parts.0 parts.1 rest is.has)
decided_whole came (Err fault) whole is rest =
    the_reading (came ++ rest) (Err fault) (whole_fault came fault rest whole is.has)

-- ---- bytes that end too early

pub ends_front : (came : List ℕ) → front_fault came ≡ Some Short
    → IsReaderReadingOf came (Err Short)
ends_front came is = the_reading came (Err Short) (inl (rw is refl))

pub ends_behind : (came : List ℕ) → front_fault came ≡ None → length came < word_at 8 came
    → IsReaderReadingOf came (Err Short)
ends_behind came none few =
    let less : nat_lt (length came) (word_at 8 came) ≡ true =
    lt-ltb (length came) (word_at 8 came) few in
    the_reading came (Err Short) (inl (rw (none, less) refl))
