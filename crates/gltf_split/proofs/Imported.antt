-- What the text of a set is imported as, over a source that has its files.
use Rattle.std.proofs.Common.{◌≡◌, ℕ, ◌<◌, ◌≤◌, ◌-◌, ◌%◌, List, [], ◌∷◌, ◌++◌, length, map}
use Rattle.std.proofs.Common.{Bool}
use Rattle.std.proofs.Common.{true, false, Vec, Global}
use Rattle.std.proofs.Common.{Option, Some, None, Ok, Err, Result, refl, sym, ap, subst, ◌∙◌, arith}
use Rattle.std.proofs.Common.{slice_get, get_or, nat_lt, option_map, string_bytes}
use Rattle.std.proofs.Common.{replicate, length-append, suc, zero}
use Rattle.std.proofs.lemmas.Bool.{ltb-false}
use Rattle.std.proofs.lemmas.List.{append-nil, length-replicate}
use Rattle.std.proofs.lemmas.Option.{slice_get-map}
use Rattle.std.specs.Prelude.{if◌then◌else◌}
use Rattle.serde_json.specs.Data.{Data}
use Rattle.gltf_json.specs.Documents.{root}
use Rattle.gltf_json.specs.Reading.{Reads}
use Rattle.gltf_json.specs.declared.root.Root.{Root}
use Rattle.gltf_json_geometry.specs.declared.buffer.Buffer.{Buffer}
use Rattle.gltf_names.specs.Named.{Named, Relative}
use Rattle.gltf_buffers.specs.Buffers.{Source, source_of, sources_of, IsBytesOf, IsMeant}
use Rattle.gltf_buffers.specs.Buffers.{bytes_of, blob_for, checked_bytes, filled_bytes, raw_bytes}
use Rattle.gltf_buffers.specs.Buffers.{BufferFault, long_enough, TooShort, meant_bytes, name_at}
use Rattle.gltf_buffers.specs.Names.{Names, Held, MayBeGiven, name_of}
use Rattle.gltf_buffers.specs.Padding.{padded}
use Rattle.gltf_buffers.specs.Uri as uri
use Rattle.gltf_mend.specs.declared.mends.Mends.{Mends}
use Rattle.gltf_required.specs.Import.{IsDocumentAs, IsValidAs}
use Rattle.gltf_required.specs.Read.{read_detached}
use Rattle.gltf_required.specs.Required.{ReadAlike, as_read, mended_by, mends_of}
use Rattle.gltf_required.specs.declared.required.Required.{Required}
use Rattle.gltf_detach.specs.Naming.{buffer_uris, image_uris, image_uri, uri_of_part}
use Rattle.gltf_detach.specs.declared.part.Part.{Part}
use Rattle.gltf_detached.specs.Laws.{IsDetached, NamesBuffers, NamesImages, LeadToNames, ReadsFiles}
use Rattle.gltf_detached.specs.Laws.{HoldsPart, AreNamed, padded_part}
use Rattle.gltf_json_scene.specs.declared.image.Image.{Image}
use Rattle.gltf_trimmed.specs.Laws.{IsReadOver, IsReadTrimmed, AreBytesOf}
use Rattle.gltf_bundle.specs.Bundle.{IsSource}
use Rattle.gltf_split.specs.Laws.{Holds, HoldsBuffers, HasItsBuffers, ShowsImages}
use Rattle.gltf_split.specs.Laws.{IsAcceptedOver, IsTakenOver}
use Rattle.gltf_split.specs.Splits.{IsSplit, bytes_of_parts, split_value, value_left, bytes_left}
use Rattle.gltf_split.specs.declared.splitting.Pieces.{Pieces}
use Rattle.gltf_split.proofs.Texts.{the_text}
use Rattle.gltf_bundle.specs.declared.options.Keep.{Keep}

of_some : {d e : Data} → ◌≡◌ {A = Option Data} (Some d) (Some e) → d ≡ e
of_some same = cc

-- ---- the records

module _ (required : Required) (names : Names) (path stem : List ℕ) (keep : Keep) (drop : Bool)
    (set : Pieces) (is : IsSplit required names path stem keep drop set) (reading : Required)
    (alike : ReadAlike required reading) (s : Root) (blob : Option (List ℕ))
    (document : IsDocumentAs reading (string_bytes set.json) s blob) where
  abbrev left : Data
  left = value_left drop is.value is.whole

  the_value : document.value ≡ split_value set left
  the_value =
      let same = the_text (string_bytes set.json) document.text blob (split_value set left)
      is.reads.1 document.parts in
      let reads = subst (λ (t : List ℕ). Reads t document.value) same document.reads in
      of_some (sym reads.1 ∙ is.reads.1)

  pub is_detached : (r : Root) → root.is (as_read required left) r
      → IsDetached (buffer_uris set.buffers.items) (image_uris set.images.items) r s
  is_detached r read = record {
    value = as_read required left;
    before = read;
    after =
        subst (λ (d : Data). root.is d s)
        (sym (alike document.value) ∙ ap (as_read required) the_value
        ∙ read_detached required (buffer_uris set.buffers.items) (image_uris set.images.items) left)
        document.records;
  }

-- ---- the buffers

length_of_map : {A B : Type 0} (f : A → B) (xs : List A) → length (map f xs) ≡ length xs
length_of_map f [] = refl
length_of_map f (x ∷ xs) = ap suc (length_of_map f xs)

-- what a buffer is imported with is a multiple of four bytes
padded_fours : (bytes : List ℕ) → length (padded bytes) % 4 ≡ 0
unfolding padded
padded_fours bytes =
    let long = length-append bytes (replicate ((4 - length bytes % 4) % 4) 0) in
    let more = length-replicate {A = ℕ} ((4 - length bytes % 4) % 4) 0 in
    omega (arith, long, more)

padded_again : (bytes : List ℕ) → length bytes % 4 ≡ 0 → padded bytes ≡ bytes
unfolding padded
padded_again bytes fours =
    let none : (4 - length bytes % 4) % 4 ≡ 0 = omega (arith, fours) in
    ap (λ (n : ℕ). bytes ++ replicate n 0) none ∙ append-nil bytes

fours_at : (i declared : ℕ) (r : Result (List ℕ) BufferFault) (x : List ℕ)
    → checked_bytes i declared (filled_bytes r) ≡ Ok x → length x % 4 ≡ 0
fours_at i declared (Err f) x is = cc
fours_at i declared (Ok bytes) x is = fours_in (nat_lt (length (padded bytes)) declared) is where
  fours_in : (b : Bool)
      → ◌≡◌ {A = Result (List ℕ) BufferFault}
      (if b then Err (TooShort i declared (length (padded bytes))) else Ok (padded bytes)) (Ok x)
      → length x % 4 ≡ 0
  fours_in true is = cc
  fours_in false is =
      let same : padded bytes ≡ x = cc in
      subst (λ (y : List ℕ). length y % 4 ≡ 0) same (padded_fours bytes)

fours : (names : Names) (blob : Option (List ℕ)) (i : ℕ) (source : Source) (x : List ℕ)
    → IsBytesOf names blob i source (Ok x) → length x % 4 ≡ 0
unfolding bytes_of
fours names blob i source x is =
    fours_at i source.declared (raw_bytes is.given blob source.uri) x is.is

-- and no less than it declares
long_at : (i declared : ℕ) (r : Result (List ℕ) BufferFault) (x : List ℕ)
    → checked_bytes i declared (filled_bytes r) ≡ Ok x → nat_lt (length x) declared ≡ false
long_at i declared (Err f) x is = cc
long_at i declared (Ok bytes) x is =
    long_in (nat_lt (length (padded bytes)) declared) refl is where
      long_in : (b : Bool) → nat_lt (length (padded bytes)) declared ≡ b
          → ◌≡◌ {A = Result (List ℕ) BufferFault}
          (if b then Err (TooShort i declared (length (padded bytes))) else Ok (padded bytes))
          (Ok x)
          → nat_lt (length x) declared ≡ false
      long_in true short is = cc
      long_in false long is =
          let same : padded bytes ≡ x = cc in
          subst (λ (y : List ℕ). nat_lt (length y) declared ≡ false) same long

long : (names : Names) (blob : Option (List ℕ)) (i : ℕ) (source : Source) (x : List ℕ)
    → IsBytesOf names blob i source (Ok x) → nat_lt (length x) source.declared ≡ false
unfolding bytes_of
long names blob i source x is =
    long_at i source.declared (raw_bytes is.given blob source.uri) x is.is

all_padded : (xs : List Part)
    → ((i : ℕ) → i < length xs → length (get_or (bytes_of_parts xs) i []) % 4 ≡ 0)
    → map padded_part xs ≡ bytes_of_parts xs
all_padded [] each = refl
all_padded (p ∷ ps) each =
    ap (λ (x : List ℕ). x ∷ map padded_part ps) (padded_again p.bytes.items (each 0 (omega arith)))
    ∙ ap (λ (xs : List (List ℕ)). p.bytes.items ∷ xs)
    (all_padded ps (λ i h. each (suc i) (omega arith)))

buffer_there : (bs : List Buffer) (i : ℕ) → i < length bs → (b : Buffer) × (slice_get bs i ≡ Some b)
buffer_there [] i h = absurd (omega arith)
buffer_there (b ∷ bs) zero h = (b, refl)
buffer_there (b ∷ bs) (suc i) h = buffer_there bs i (omega arith)

within_list : {A : Type 0} (ps : List A) (i : ℕ) (p : A) → slice_get ps i ≡ Some p → i < length ps
within_list [] i p there = cc
within_list (q ∷ ps) zero p there = omega arith
within_list (q ∷ ps) (suc i) p there = let later = within_list ps i p there in omega (arith, later)

at_least : (a b : ℕ) → nat_lt a b ≡ false → b ≤ a
at_least a b is = ltb-false a b is

not_less : (a b : ℕ) → b ≤ a → nat_lt a b ≡ false
not_less a b h = grind arith

-- the file is read over the bytes of its buffers
source_over : (required : Required) (names : Names) (path : List ℕ) (value : Data) (r : Root)
    (buffers : List (List ℕ)) → IsSource required names path value r buffers
    → IsReadOver (as_read required value) r buffers
source_over required names path value r buffers source = record {
  is = source.records;
  count = source.data_.count ∙ length_of_map source_of r.buffers.items;
  each =
      λ i b there.
      let inside : i < length (sources_of r) =
      subst (λ (n : ℕ). i < n) (sym (length_of_map source_of r.buffers.items))
      (within_list r.buffers.items i b there) in
      let was = source.data_.each i (source_of b) inside
      (slice_get-map source_of r.buffers.items i ∙ ap (option_map source_of) there) in
      let old_blob = blob_for (sources_of r) source.blob i in
      let bytes = get_or buffers i [] in
      record {
        long =
            at_least (length bytes) b.byte_length
            (long names old_blob i (source_of b) bytes was);
        fours = fours names old_blob i (source_of b) bytes was;
      };
}

-- what is left of a document, and what it is read over
pub record IsLeftOver (mends : Option Mends) (drop : Bool) (value : Data) (r : Root)
    (whole left : List (List ℕ)) : Type 0 where
  pub root_ : Root
  pub over : IsReadOver (mended_by mends (value_left drop value whole)) root_ left
  pub images : root_.images ≡ r.images

pub some_mends : {A : Type 0} (mends : Mends) → ◌≡◌ {A = Option Mends} (Some mends) None → A
some_mends mends same = cc

abbrev pub left_over : IsReadTrimmed → (mends : Option Mends) (drop : Bool)
    → (drop ≡ true → mends ≡ None) → (value : Data) (r : Root) (whole : List (List ℕ))
    → IsReadOver (mended_by mends value) r whole
    → IsLeftOver mends drop value r whole (bytes_left drop value whole)
left_over trimmed None true stands value r whole over =
    let found = trimmed value r whole over in
    record { root_ = found.0; over = found.1; images = found.2 }
left_over trimmed (Some mends) true stands value r whole over = some_mends mends (stands refl)
left_over trimmed mends false stands value r whole over =
    record { root_ = r; over = over; images = refl }

pub split_over : (required : Required) (names : Names) (path stem : List ℕ) (keep : Keep)
    (drop : Bool) (set : Pieces) (is : IsSplit required names path stem keep drop set)
    → IsReadOver (as_read required is.value) is.root_ is.whole
split_over required names path stem keep drop set is =
    source_over required names path is.value is.root_ is.whole is.source

-- what is left of the file that a set is of
pub split_left : IsReadTrimmed → (required : Required) (names : Names) (path stem : List ℕ)
    (keep : Keep) (drop : Bool) (set : Pieces) (is : IsSplit required names path stem keep drop set)
    → IsLeftOver (mends_of required) drop is.value is.root_ is.whole
    (bytes_of_parts set.buffers.items)
split_left trimmed required names path stem keep drop set is =
    subst (λ (xs : List (List ℕ)).
    IsLeftOver (mends_of required) drop is.value is.root_ is.whole xs) (sym is.bytes)
    (left_over trimmed (mends_of required) drop is.stands is.value is.root_ is.whole
    (split_over required names path stem keep drop set is))

module _ (value : Data) (r : Root) (ps : List Part) (over : IsReadOver value r (bytes_of_parts ps))
  where
    pub own_count : length r.buffers.items ≡ length ps
    own_count = sym over.count ∙ length_of_map (λ (p : Part). p.bytes.items) ps

    pub are_padded : map padded_part ps ≡ bytes_of_parts ps
    are_padded =
        all_padded ps
        (λ i h.
        let found = buffer_there r.buffers.items i (subst (λ (n : ℕ). i < n) (sym own_count) h) in
        (over.each i found.0 found.1).fours)

pub has_its_buffers : NamesBuffers → ReadsFiles → IsReadTrimmed → HasItsBuffers
has_its_buffers named files trimmed required names path stem keep drop set is reading alike there
    holds s others accepts =
    let ps = set.buffers.items in
    let detached = is_detached required names path stem keep drop set is reading alike s accepts.blob
    accepts.document in
    let left = split_left trimmed required names path stem keep drop set is in
    let value = as_read required (value_left drop is.value is.whole) in
    let are = named (buffer_uris ps) (image_uris set.images.items) left.root_ s
    (detached left.root_ left.over.is) in
    let own = own_count value left.root_ ps left.over in (
      detached,
      files ps s (are.count ∙ own)
          (λ i p at.
          let before = buffer_there left.root_.buffers.items i
          (subst (λ (n : ℕ). i < n) (sym own) (within_list ps i p at)) in
          let after = are.each i before.0 before.1 (uri_of_part p)
          (slice_get-map (λ (p : Part). Some (uri_of_part p)) ps i
          ∙ ap (option_map (λ (p : Part). Some (uri_of_part p))) at) in
          record { buffer = after.buffer; there = after.there; uri = after.uri })
          there holds accepts.blob others accepts.data_
          ∙ are_padded value left.root_ ps left.over,
    )

-- ---- over a source that has the files, the text is accepted

of_some_source : {a b : Source} → ◌≡◌ {A = Option Source} (Some a) (Some b) → a ≡ b
of_some_source same = cc

enough : (i declared : ℕ) (x : List ℕ) → nat_lt (length x) declared ≡ false
    → long_enough i declared x ≡ Ok x
enough i declared x is = rw is refl

module _ (lead : LeadToNames) (there : Holds) (p : Part) (holds : HoldsPart there p)
    (whole : length p.bytes.items % 4 ≡ 0) (blob : Option (List ℕ)) (i : ℕ) (source : Source)
    (is_uri : source.uri ≡ Some (uri_of_part p))
    (fits : nat_lt (length p.bytes.items) source.declared ≡ false) where
  abbrev bytes : List ℕ
  bytes = p.bytes.items

  name_is : name_at source.uri ≡ Some (Relative (string_bytes p.name))
  name_is = ap name_at is_uri ∙ ap name_of (lead p)

  bytes_are : bytes_of (Some bytes) blob i source ≡ Ok bytes
  unfolding bytes_of
  bytes_are =
      let raw = ap (λ (u : Option (List ℕ)).
      checked_bytes i source.declared (filled_bytes (raw_bytes (Some bytes) blob u))) is_uri in
      let meant = ap (λ (m : uri.Meaning).
      checked_bytes i source.declared (filled_bytes (meant_bytes (Some bytes) m))) (lead p) in
      let again = ap (λ (b : List ℕ). checked_bytes i source.declared (Ok b))
      (padded_again bytes whole) in
      raw ∙ meant ∙ again ∙ enough i source.declared bytes fits

  read_from : IsBytesOf (Held there) blob i source (Ok bytes)
  read_from = record {
    given = Some bytes;
    may =
        subst (λ (o : Option Named). MayBeGiven (Held there) o (Some bytes)) (sym name_is)
        (refl, holds);
    is = bytes_are;
  }

-- the file at an index
record At (ps : List Part) (i : ℕ) : Type 0 where
  part : Part
  there : slice_get ps i ≡ Some part
  is : get_or (bytes_of_parts ps) i [] ≡ part.bytes.items

file_at : (ps : List Part) (i : ℕ) → i < length ps → At ps i
file_at [] i h = absurd (omega arith)
file_at (p ∷ ps) zero h = record { part = p; there = refl; is = refl }
file_at (p ∷ ps) (suc i) h =
    let later = file_at ps i (omega arith) in
    record { part = later.part; there = later.there; is = later.is }

module _ (named : NamesBuffers) (lead : LeadToNames) (trimmed : IsReadTrimmed)
    (required : Required) (names : Names) (path stem : List ℕ) (keep : Keep) (drop : Bool)
    (set : Pieces)
    (is : IsSplit required names path stem keep drop set) (passing : Required)
    (alike : ReadAlike required passing) (there : Holds)
    (holds : HoldsBuffers there set) (s : Root) (blob : Option (List ℕ))
    (valid : IsValidAs passing (string_bytes set.json) s blob) where
  abbrev parts : List Part
  parts = set.buffers.items

  abbrev left_there : IsLeftOver (mends_of required) drop is.value is.root_ is.whole
      (bytes_of_parts parts)
  left_there = split_left trimmed required names path stem keep drop set is

  abbrev own_root : Root
  own_root = left_there.root_

  are : AreNamed (buffer_uris parts) own_root s
  are =
      named (buffer_uris parts) (image_uris set.images.items) own_root s
      (is_detached required names path stem keep drop set is passing alike s blob valid.document
      own_root left_there.over.is)

  own : length own_root.buffers.items ≡ length parts
  own =
      own_count (as_read required (value_left drop is.value is.whole)) own_root parts
      left_there.over

  as_many : length (sources_of s) ≡ length parts
  as_many = length_of_map source_of s.buffers.items ∙ are.count ∙ own

  each : (i : ℕ) (source : Source) → i < length (sources_of s)
      → slice_get (sources_of s) i ≡ Some source
      → IsBytesOf (Held there) (blob_for (sources_of s) blob i) i source
      (Ok (get_or (bytes_of_parts parts) i []))
  each i source h there_is =
      let within : i < length parts = subst (λ (n : ℕ). i < n) as_many h in
      let found = file_at parts i within in
      let p = found.part in
      let inside : i < length own_root.buffers.items = subst (λ (n : ℕ). i < n) (sym own) within in
      let before = buffer_there own_root.buffers.items i inside in
      let after = are.each i before.0 before.1 (uri_of_part p)
      (slice_get-map (λ (p : Part). Some (uri_of_part p)) parts i
      ∙ ap (option_map (λ (p : Part). Some (uri_of_part p))) found.there) in
      let same : source_of after.buffer ≡ source =
      of_some_source (sym (slice_get-map source_of s.buffers.items i
      ∙ ap (option_map source_of) after.there) ∙ there_is) in
      let was : AreBytesOf before.0 p.bytes.items =
      subst (λ (x : List ℕ). AreBytesOf before.0 x) found.is
      (left_there.over.each i before.0 before.1) in
      let fits : nat_lt (length p.bytes.items) after.buffer.byte_length ≡ false =
      ap (λ (n : ℕ). nat_lt (length p.bytes.items) n) after.long
      ∙ not_less (length p.bytes.items) before.0.byte_length was.long in
      let read = read_from lead there p (holds i p found.there) was.fours
      (blob_for (sources_of s) blob i) i (source_of after.buffer) after.uri fits in
      subst (λ (x : List ℕ).
      IsBytesOf (Held there) (blob_for (sources_of s) blob i) i source (Ok x)) (sym found.is)
      (subst (λ (c : Source).
      IsBytesOf (Held there) (blob_for (sources_of s) blob i) i c (Ok p.bytes.items)) same read)

  accepted : IsAcceptedOver passing there set
  accepted = (
    s,
    bytes_of_parts parts,
    record {
      blob = blob;
      valid = valid;
      data_ = record {
        count = length_of_map (λ (p : Part). p.bytes.items) parts ∙ sym as_many;
        each = each;
      };
    },
  )

pub accepted_over : NamesBuffers → LeadToNames → IsReadTrimmed → IsTakenOver
accepted_over named lead trimmed required names path stem keep drop set is passing alike text there
    holds =
    accepted named lead trimmed required names path stem keep drop set is passing alike there holds
    text.0 text.1 text.2

-- ---- images

pub shows_images : NamesImages → LeadToNames → IsReadTrimmed → ShowsImages
shows_images named lead trimmed required names path stem keep drop set is reading alike there s
    others accepts i p at holds x before =
    let left = split_left trimmed required names path stem keep drop set is in
    let detached = is_detached required names path stem keep drop set is reading alike s accepts.blob
    accepts.document left.root_ left.over.is in
    let u = uri_of_part p in
    let image : slice_get left.root_.images.items i ≡ Some x =
    ap (λ (v : Vec Image Global). slice_get v.items i) left.images ∙ before in
    let after = named (buffer_uris set.buffers.items)
    (image_uris set.images.items) left.root_ s detached
    i x image u
    (slice_get-map image_uri set.images.items i ∙ ap (option_map image_uri) at) in
    record {
      image = after.image;
      is_there = after.there;
      uri = u;
      own = refl;
      has_uri = after.uri;
      no_view = after.no_view;
      meant =
          subst (λ (m : uri.Meaning). IsMeant (Held there) m (Ok p.bytes.items)) (sym (lead p))
          record { given = Some p.bytes.items; may = (refl, holds); is = refl };
      type = after.type;
    }
