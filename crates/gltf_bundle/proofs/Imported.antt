-- What a bundle is imported as: the law `one_buffer`. `the_parts` are what its container holds,
-- `the_value` is its JSON value, and `the_buffers` are its buffers.
use Rattle.std.proofs.Common.{◌≡◌, ℕ, suc, ◌-◌, ◌%◌, List, [], ◌∷◌, length}
use Rattle.std.proofs.Common.{Option, Some, None, option_map, Ok, Result, false, ◌+◌, ◌<◌}
use Rattle.std.proofs.Common.{◌++◌, length-append, unwrap_or}
use Rattle.std.proofs.Common.{nat_lt, get_or, map, codes, refl, sym, ap, subst, ◌∙◌, arith, ◌⊎◌}
use Rattle.std.proofs.Common.{inl, inr}
use Rattle.std.proofs.Common.{⊎_elim}
use Rattle.std.proofs.lemmas.List.Elements.{All-nil, All-cons}
use Rattle.std.specs.Prelude.{MatchOption, IsSome, option_and_then, string_bytes, All}
use Rattle.serde_json.specs.Data.{Data, null, boolean, number, string, array, object, item}
use Rattle.serde_json.specs.Data.{Items, no_items}
use Rattle.serde_json.specs.Events.{items_len}
use Rattle.serde_json.specs.Find.{get, as_array, as_object}
use Rattle.gltf_json_record.specs.Items.{AllRead}
use Rattle.gltf_json_record.specs.Member.{unless_null}
use Rattle.gltf_json_geometry.specs.Buffers.{buffer}
use Rattle.gltf_json_geometry.specs.declared.buffer.Buffer.{Buffer}
use Rattle.gltf_json.specs.Documents.{root}
use Rattle.gltf_json.specs.Reading.{Reads}
use Rattle.gltf_json.specs.declared.root.Root.{Root}
use Rattle.gltf_glb.specs.Bytes.{padded}
use Rattle.gltf_glb.specs.FillingLaws.{padded_whole}
use Rattle.gltf_glb.specs.Laws.{ReadsBack}
use Rattle.gltf.specs.Laws.{OneTextAndBlob}
use Rattle.gltf_buffers.specs.Buffers.{source_of, AreBytes, bytes_of, blob_for}
use Rattle.gltf_buffers.specs.Buffers.{checked_bytes, filled_bytes, raw_bytes, long_enough}
use Rattle.gltf_buffers.specs.Names.{Names}
use Rattle.gltf_buffers.specs.Padding as payload
use Rattle.gltf_pack.specs.Laws.{SpacesBehind}
use Rattle.gltf.specs.Import.{AreParts}
use Rattle.gltf_required.specs.Import.{IsRead}
use Rattle.gltf_mended.specs.Edited.{buffers_left, images_left}
use Rattle.gltf_required.specs.Left.{others_are}
use Rattle.gltf_required.specs.Read.{get_read, object_read, read_moved, read_placed}
use Rattle.gltf_required.specs.Required.{ReadAlike, as_read}
use Rattle.gltf_required.specs.declared.required.Required.{Required}
use Rattle.gltf_edit.specs.Bundled.{bundled, views_after, with_some, one_buffer}
use Rattle.gltf_edit.specs.BundledLaws.{get_with, get_with_some_other, object_with_some, differ}
use Rattle.gltf_edit.specs.BundledLaws.{bundled_other}
use Rattle.gltf_edit.specs.Embedded.{embedded, with_items, buffers_of, count_at}
use Rattle.gltf_edit.specs.EmbeddedLaws.{longer, longer_list, longer_buffers, length_with}
use Rattle.gltf_edit.specs.EmbeddedLaws.{object_embedded, embedded_images}
use Rattle.gltf_edit.specs.Joined.{joined, spans_from}
use Rattle.gltf_edit.specs.JoinedLaws.{joined_whole}
use Rattle.gltf_edit.specs.declared.span.Span.{Span}
use Rattle.gltf_moved.specs.Laws.{IsMoved, one_list, moved_value}
use Rattle.gltf_bundle.specs.Bundle.{IsBundle, IsSource, blob_of}
use Rattle.gltf_bundle.specs.Images.{AreTaken}
use Rattle.gltf_bundle.proofs.Parts.{parts_written, one_value}
use Rattle.gltf_bundle.proofs.Taken.{as_many_taken}
use Rattle.gltf_bundle.proofs.Uris.{ReadsImages, no_uris, images_over}
use Rattle.gltf_bundle.specs.declared.options.Keep.{Keep}
use Rattle.gltf_bundle.specs.declared.options.Keep.TheVariants.{Nothing}

-- ---- the list of buffers

abbrev ReadsBuffers : Option Data → List Buffer → Type 0
ReadsBuffers o bs = MatchOption (option_and_then unless_null o) (bs ≡ [])
    (λ e. MatchOption (as_array e) ⊥ (λ ds. AllRead buffer.is ds bs))

-- one buffer in place of some, which is so long
record One (total n : ℕ) (cs : List Buffer) : Type 0 where
  some : 0 < n
  one : Buffer
  after : cs ≡ one ∷ []
  uri : one.uri ≡ None
  long : one.byte_length ≡ total

-- in place of none there is none
abbrev NoneOrOne : ℕ → ℕ → List Buffer → Type 0
NoneOrOne total n cs = ((n ≡ 0) × (cs ≡ [])) ⊎ One total n cs

of_some : {m n : ℕ} → ◌≡◌ {A = Option ℕ} (Some m) (Some n) → m ≡ n
of_some same = cc

listed : (total : ℕ) (ds : Items) (cs : List Buffer)
    → ReadsBuffers (Some (one_buffer total (array ds))) cs → NoneOrOne total (items_len ds) cs
unfolding buffer
listed total no_items [] after = inl (refl, refl)
listed total no_items (c ∷ cs) after = absurd after
listed total (item d ds) [] after = absurd after
listed total (item d ds) (c ∷ c2 ∷ cs) after = absurd after.1
listed total (item d ds) (c ∷ []) after =
    inr record {
      some = omega arith;
      one = c;
      after = refl;
      uri = after.0.1.1.0;
      long = sym (of_some after.0.1.0);
    }

as_many_read : (ds : Items) (bs : List Buffer) → AllRead buffer.is ds bs → items_len ds ≡ length bs
as_many_read no_items [] is = refl
as_many_read no_items (b ∷ bs) is = absurd is
as_many_read (item d ds) [] is = absurd is
as_many_read (item d ds) (b ∷ bs) is = ap suc (as_many_read ds bs is.1)

-- a list that was absent
made_or_none : (total : ℕ) (o : Option Data) (more : Items) (bs cs : List Buffer)
    → option_and_then as_array o ≡ None → option_and_then unless_null
    (option_map (one_buffer total) o) ≡ None
    → bs ≡ [] → ReadsBuffers (option_map (one_buffer total) (longer more o)) cs
    → NoneOrOne total (length bs + items_len more) cs
made_or_none total o no_items bs cs absent nothing none after =
    inl (
      ap (λ (xs : List Buffer). length xs + 0) none,
      subst (λ o. MatchOption o (cs ≡ []) (λ e. MatchOption (as_array e) ⊥
          (λ ds. AllRead buffer.is ds cs))) nothing after,
    )
made_or_none total o (item e es) bs cs absent nothing none after =
    let whole : unwrap_or (option_and_then as_array o) no_items ≡ no_items =
    ap (λ o. unwrap_or o no_items) absent in
    let reads = subst (λ ds. ReadsBuffers (Some (one_buffer total (array
    (with_items ds (item e es))))) cs) whole after in
    subst (λ (n : ℕ). NoneOrOne total n cs)
    (sym (ap (λ (xs : List Buffer). length xs + items_len (item e es)) none ∙ omega arith))
    (listed total (item e es) cs reads)

none_or_one : (total : ℕ) (o : Option Data) (more : Items) (bs cs : List Buffer)
    → ReadsBuffers o bs → ReadsBuffers (option_map (one_buffer total) (longer more o)) cs
    → NoneOrOne total (length bs + items_len more) cs
none_or_one total None more bs cs is after = made_or_none total None more bs cs refl refl is after
none_or_one total (Some null) more bs cs is after =
    made_or_none total (Some null) more bs cs refl refl is after
none_or_one total (Some (boolean b)) more bs cs is after = absurd is
none_or_one total (Some (number n)) more bs cs is after = absurd is
none_or_one total (Some (string s)) more bs cs is after = absurd is
none_or_one total (Some (array ds)) more bs cs is after =
    let reads = subst (λ o. ReadsBuffers (option_map (one_buffer total) o) cs)
    (longer_list ds more) after in
    let count = length_with ds more in
    let read = as_many_read ds bs is in
    subst (λ (n : ℕ). NoneOrOne total n cs) (count ∙ ap (λ (n : ℕ). n + items_len more) read)
    (listed total (with_items ds more) cs reads)
none_or_one total (Some (object ms)) more bs cs is after = absurd is

changed_at : (total : ℕ) (d base : Data) (o : Option Data) → IsSome (as_object base)
    → get (codes "buffers") d ≡ o → get (codes "buffers") base ≡ get (codes "buffers") d
    → get (codes "buffers") (with_some (codes "buffers") (option_map (one_buffer total) o) base)
    ≡ option_map (one_buffer total) o
changed_at total d base None is at same = same ∙ at
changed_at total d base (Some e) is at same =
    get_with (codes "buffers") (one_buffer total e) base is

pub buffers_changed : (spans : List Span) (total : ℕ) (d : Data) → IsSome (as_object d)
    → get (codes "buffers") (bundled spans total d)
    ≡ option_map (one_buffer total) (get (codes "buffers") d)
buffers_changed spans total d is =
    changed_at total d (with_some (codes "bufferViews") (views_after spans d) d)
    (get (codes "buffers") d) (object_with_some (codes "bufferViews") (views_after spans d) d is)
    refl
    (get_with_some_other (codes "buffers") (codes "bufferViews") (views_after spans d) d
    (differ (codes "buffers") (codes "bufferViews") refl))

-- ---- the bytes of the one

not_below : (n : ℕ) → nat_lt n n ≡ false
not_below n = grind arith

of_ok : {F : Type 0} {a b : List ℕ} → ◌≡◌ {A = Result (List ℕ) F} (Ok a) (Ok b) → a ≡ b
of_ok same = cc

padded_of_whole : (bytes : List ℕ) → length bytes % 4 ≡ 0 → payload.padded bytes ≡ bytes
unfolding payload.padded
padded_of_whole bytes whole = padded_whole 0 bytes whole

the_bytes : (given : Option (List ℕ)) (one : Buffer) (bytes x : List ℕ)
    → length bytes % 8 ≡ 0 → one.uri ≡ None → one.byte_length ≡ length bytes
    → bytes_of given (blob_for (source_of one ∷ []) (Some (padded 0 bytes)) 0) 0 (source_of one)
    ≡ Ok x
    → x ≡ bytes
unfolding bytes_of blob_for
the_bytes given one bytes x whole no_uri long is =
    let fours : length bytes % 4 ≡ 0 = omega arith in
    let raw = ap (λ (u : Option (List ℕ)).
    checked_bytes 0 one.byte_length (filled_bytes (raw_bytes given (Some (padded 0 bytes)) u)))
    (ap (option_map string_bytes) no_uri) in
    let filled = ap (λ (b : List ℕ). checked_bytes 0 one.byte_length (Ok (payload.padded b)))
    (padded_whole 0 bytes fours) in
    let again = ap (λ (b : List ℕ). checked_bytes 0 one.byte_length (Ok b))
    (padded_of_whole bytes fours) in
    let enough = ap (λ (n : ℕ). long_enough 0 n bytes) long in
    let fine : long_enough 0 (length bytes) bytes ≡ Ok bytes = rw (not_below (length bytes)) refl in
    of_ok (sym is ∙ raw ∙ filled ∙ again ∙ enough ∙ fine)

empty : {A : Type 0} (xs : List A) → length xs ≡ 0 → xs ≡ []
empty [] is = refl
empty (x ∷ xs) is = absurd (omega arith)

single : {A : Type 0} (d : A) (xs : List A) → length xs ≡ 1 → xs ≡ get_or xs 0 d ∷ []
single d [] is = absurd (omega arith)
single d (x ∷ []) is = refl
single d (x ∷ y ∷ xs) is = absurd (omega arith)

length_of_map : {A B : Type 0} (f : A → B) (xs : List A) → length (map f xs) ≡ length xs
length_of_map f [] = refl
length_of_map f (x ∷ xs) = ap suc (length_of_map f xs)

-- the bytes of the one buffer of a list
from_one : (over : Names) (one : Buffer) (bytes : List ℕ) (cs : List Buffer)
    (blob : Option (List ℕ)) (others : List (List ℕ)) → cs ≡ one ∷ [] → blob ≡ Some (padded 0 bytes)
    → length bytes % 8 ≡ 0 → one.uri ≡ None → one.byte_length ≡ length bytes
    → AreBytes over (map source_of cs) blob (length (map source_of cs)) others
    → others ≡ bytes ∷ []
from_one over one bytes cs blob others is_one is_blob whole no_uri long are =
    let here = subst (λ (xs : List Buffer).
    AreBytes over (map source_of xs) blob (length (map source_of xs)) others) is_one are in
    let all = subst (λ (b : Option (List ℕ)).
    AreBytes over (source_of one ∷ []) b 1 others) is_blob here in
    let first = all.each 0 (source_of one) (omega arith) refl in
    single [] others all.count
    ∙ ap (λ (x : List ℕ). x ∷ [])
    (the_bytes first.given one bytes (get_or others 0 []) whole no_uri long first.is)

-- ---- what a bundle is imported as

module _ (one : OneTextAndBlob) (back : ReadsBack) (spaces : SpacesBehind)
    (required : Required) (names : Names) (path : List ℕ) (keep : Keep) (answer : List ℕ)
    (is : IsBundle required names path keep answer) (reading : Required) (over : Names) (s : Root)
    (others : List (List ℕ)) (accepted : IsRead reading over answer s others) where
  abbrev all : List (List ℕ)
  all = is.buffers ++ is.images

  abbrev source : IsSource required names path is.value is.root_ is.buffers
  source = is.gathered.source

  the_parts : AreParts answer (padded 32 is.json) (option_map (padded 0) (blob_of all))
  the_parts =
      subst (λ (t : List ℕ).
      AreParts t (padded 32 is.json) (option_map (padded 0) (blob_of all)))
      (sym is.written) (parts_written back is.json (blob_of all) is.fits)

  the_blob : accepted.blob ≡ option_map (padded 0) (blob_of all)
  the_blob =
      (one answer (padded 32 is.json) accepted.document.text
      (option_map (padded 0) (blob_of all)) accepted.blob the_parts
      accepted.document.parts).1

  the_text : accepted.document.text ≡ padded 32 is.json
  the_text =
      (one answer (padded 32 is.json) accepted.document.text
      (option_map (padded 0) (blob_of all)) accepted.blob the_parts
      accepted.document.parts).0

  abbrev total : ℕ
  total = length (joined all)

  abbrev between : Data
  between = embedded is.pictures is.value

  abbrev edited : Data
  edited = moved_value all is.pictures is.value

  pub the_value : accepted.document.value ≡ edited
  the_value =
      let document = accepted.document in
      let padded_reads : Reads (padded 32 is.json) document.value =
      subst (λ (t : List ℕ). Reads t document.value) the_text document.reads in
      let n = (4 - length is.json % 4) % 4 in
      one_value is.json is.json document.value edited refl
      ((spaces n is.json document.value).0 padded_reads) is.reads

  pub after : root.is (as_read reading edited) s
  after =
      subst (λ (d : Data). root.is (as_read reading d) s) the_value accepted.document.records

  is_object : IsSome (as_object is.value)
  unfolding root
  is_object = object_read required is.value source.records.0

  pub own_count : length is.buffers ≡ length is.root_.buffers.items
  own_count = source.data_.count ∙ length_of_map source_of is.root_.buffers.items

  abbrev pub is_moved : ReadAlike required reading → IsMoved is.buffers is.images is.root_ s
  is_moved alike = record {
    value = as_read required is.value;
    pictures = is.pictures;
    before = source.records;
    rules =
        (source.left, source.rules, others_are required is.root_ source.left source.is_left);
    count = own_count;
    after =
        subst (λ (d : Data). root.is d s)
        (sym (alike edited) ∙ read_moved required (spans_from 0 all) total is.pictures is.value)
        after;
    placed = read_placed required (spans_from 0 all) is.pictures is.value is.placed;
    fits = is.short;
  }

  abbrev count : ℕ
  count = length is.root_.buffers.items + items_len (buffers_of is.pictures)

  the_list : NoneOrOne total count s.buffers.items
  unfolding root
  the_list =
      none_or_one total (get (codes "buffers") is.value) (buffers_of is.pictures)
      is.root_.buffers.items s.buffers.items
      (subst (λ o. ReadsBuffers o is.root_.buffers.items)
      (get_read required (codes "buffers") buffers_left is.value) source.records.1.1.1.1.0)
      (subst (λ o. ReadsBuffers o s.buffers.items)
      (get_read reading (codes "buffers") buffers_left edited
      ∙ buffers_changed (spans_from 0 all) total between
      (object_embedded is.pictures is.value is_object)
      ∙ ap (option_map (one_buffer total)) (longer_buffers is.pictures is.value is_object))
      after.1.1.1.1.0)

  as_many : length all ≡ count
  as_many =
      let both = length-append is.buffers is.images in
      let images =
      as_many_taken keep names is.value is.pictures is.images is.lost is.gathered.taken in
      omega (arith, own_count, both, images)

  none_at : count ≡ 0 → s.buffers.items ≡ [] → length others
      ≡ length (map source_of s.buffers.items)
      → others ≡ one_list all
  none_at none none_after count_after =
      let nothing : all ≡ [] = empty all (as_many ∙ none) in
      empty others (count_after
      ∙ ap (λ (xs : List Buffer). length (map source_of xs)) none_after)
      ∙ ap one_list (sym nothing)

  one_at : (bytes : List (List ℕ)) → 0 < length bytes
      → (blob_of bytes ≡ Some (joined bytes)) × (joined bytes ∷ [] ≡ one_list bytes)
  one_at [] some = absurd (omega arith)
  one_at (x ∷ xs) some = (refl, refl)

  pub the_buffers : others ≡ one_list all
  the_buffers =
      ⊎_elim
      (λ none. none_at none.0 none.1 accepted.data_.count)
      (λ found.
      let some = found.some in
      let here = one_at all (omega (arith, as_many, some)) in
      from_one over found.one (joined all) s.buffers.items accepted.blob others found.after
      (the_blob ∙ ap (option_map (padded 0)) here.0) (joined_whole all) found.uri
      found.long accepted.data_
      ∙ here.1)
      the_list

  -- ---- it names no other file

  pub no_buffer_uri : All (λ b. b.uri ≡ None) s.buffers.items
  no_buffer_uri =
      ⊎_elim
      (λ none. subst (All (λ (b : Buffer). b.uri ≡ None)) (sym none.1) (All-nil _))
      (λ found.
      subst (All (λ (b : Buffer). b.uri ≡ None)) (sym found.after)
      (All-cons (λ (b : Buffer). b.uri ≡ None) found.one [] found.uri (All-nil _)))
      the_list

  pub no_image_uri : keep ≡ Nothing → All (λ i. i.uri ≡ None) s.images.items
  unfolding root
  no_image_uri not_kept =
      let taken =
      subst (λ (k : Keep). AreTaken k names is.value is.pictures is.images is.lost) not_kept
      is.gathered.taken in
      no_uris names (get (codes "images") is.value) is.pictures
      (count_at (codes "bufferViews") is.value) is.images is.lost s.images.items taken
      (subst (λ o. ReadsImages o s.images.items)
      (get_read reading (codes "images") images_left edited
      ∙ bundled_other (spans_from 0 all) total between (codes "images")
      (differ (codes "images") (codes "buffers") refl)
      (differ (codes "images") (codes "bufferViews") refl)
      ∙ embedded_images is.pictures is.value is_object
      ∙ images_over names is.pictures is.value)
      after.1.1.1.1.1.1.1.0)
