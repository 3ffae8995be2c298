-- Items at a distance of their own.
use Rattle.std.proofs.Common.{◌≡◌, ℕ, zero, suc, ◌+◌, ◌-◌, ◌*◌, ◌<◌, ◌≤◌, List, map, drop}
use Rattle.std.proofs.Common.{refl, sym, ap, subst, ◌∙◌, arith, Bool}
use Rattle.std.proofs.Math.Dec.{eqb-suc-zero}
use Rattle.std.specs.Prelude.{Option, Some, None, SomeIff, unwrap_or, option_and_then}
use Rattle.std.specs.Prelude.{if◌then◌else◌}
use Rattle.std.specs.Option.{option_map}
use Rattle.std.specs.List.{range_with_len}
use Rattle.gltf_json.specs.declared.root.Root.{Root}
use Rattle.gltf_json_geometry.specs.declared.buffer.View.{View}
use Rattle.gltf_json_geometry.specs.declared.accessor.Accessor.{Accessor}
use Rattle.gltf_json_geometry.specs.declared.accessor.sparse.Sparse.{Sparse}
use Rattle.gltf_handles.specs.Members.{above_zero}
use Rattle.gltf_handles.specs.Sizes.{item_size}
use Rattle.gltf_items.specs.declared.item.Item.{Ghosts}
use Rattle.gltf_data.specs.Answers.{Results, ArePartsAsked, IsAnsweredFor, answer_for, answers_with}
use Rattle.gltf_data.specs.Answers.{Reads, ReadsAlike, answers_by}
use Rattle.gltf_data.specs.Parts.{Part, part_of, Answers, Fits, PartReadable, BaseReadable}
use Rattle.gltf_data.specs.Parts.{PartsReadable, Readable, addressed, items_in, part_items}
use Rattle.gltf_data.specs.Parts.{base_items, index_items, items_with, items, index_part}
use Rattle.gltf_data.specs.Parts.{value_part, view_at, view_offset, stride}
use Rattle.gltf_items.specs.Sparse.{sparse}
use Rattle.gltf_access.specs.Raw.{Raw, raw_bytes}
use Rattle.gltf_access.specs.Components.{spaced, spaced_part, base_at, AreAsked}
use Rattle.gltf_access.specs.Components.{answers_at}
use Rattle.gltf_access.specs.Taken.{LiesIn, bytes_at, PartsThere, taken_items, TakesParts}

-- ---- in the bytes of a view

-- a part is what lies in its view at its distance
pub fits_at : (p : Part) (bytes : List ℕ) (raw : Option Raw) (n : ℕ) → n ≡ stride p.view p.size
    → SomeIff raw (LiesIn p.view p.offset p.count n p.size bytes)
    (bytes_at p.view p.offset p.count n p.size bytes)
    → SomeIff raw (Fits p bytes) (raw_bytes p bytes)
fits_at p bytes None n at is = λ fits. is (record {
  some = fits.some;
  apart = subst (λ (m : ℕ). p.size ≤ m) (sym at) fits.apart;
  view_within = fits.view_within;
  items_within =
      subst (λ (m : ℕ). p.offset + m * (p.count - 1) + p.size ≤ p.view.byte_length) (sym at)
      fits.items_within;
})
fits_at p bytes (Some raw) n at is = (
  record {
    some = is.0.some;
    apart = subst (λ (m : ℕ). p.size ≤ m) at is.0.apart;
    view_within = is.0.view_within;
    items_within =
        subst (λ (m : ℕ). p.offset + m * (p.count - 1) + p.size ≤ p.view.byte_length) at
        is.0.items_within;
  },
  is.1 ∙ ap (λ (m : ℕ). bytes_at p.view p.offset p.count m p.size bytes) at,
)

above : (o : Option ℕ) (n : ℕ) → 0 < n → 0 < unwrap_or (above_zero o) n
above None n some = some
above (Some zero) n some = some
above (Some (suc k)) n some =
    subst (λ (b : Bool). 0 < unwrap_or (if b then None else Some (suc k)) n)
    (sym (eqb-suc-zero k)) (omega arith)

kept : (m size : ℕ) → 0 < m → unwrap_or (above_zero (Some m)) size ≡ m
kept zero size some = absurd (omega (arith, some))
kept (suc m) size some =
    ap (λ (b : Bool). unwrap_or (if b then None else Some (suc m)) size) (eqb-suc-zero m)

-- the distance is that of the view, or the given one
pub spaced_stride : (v : View) (n size : ℕ) → 0 < n → stride (spaced n v) size ≡ stride v n
spaced_stride v n size some = kept (stride v n) size (above v.byte_stride n some)

relies : (v : View) (apart offset count n size : ℕ) (bytes : List ℕ) (raw : Option Raw)
    → SomeIff raw (LiesIn v offset count n size bytes) (bytes_at v offset count n size bytes)
    → SomeIff raw (LiesIn (spaced apart v) offset count n size bytes)
    (bytes_at (spaced apart v) offset count n size bytes)
relies v apart offset count n size bytes None is = λ there. is (record {
  some = there.some;
  apart = there.apart;
  view_within = there.view_within;
  items_within = there.items_within;
})
relies v apart offset count n size bytes (Some raw) is = (
  record {
    some = is.0.some;
    apart = is.0.apart;
    view_within = is.0.view_within;
    items_within = is.0.items_within;
  },
  is.1,
)

pub fits_spaced : (v : View) (apart offset count size : ℕ) (bytes : List ℕ) (raw : Option Raw)
    (n : ℕ) → 0 < apart → n ≡ stride v apart
    → SomeIff raw (LiesIn v offset count n size bytes) (bytes_at v offset count n size bytes)
    → SomeIff raw (Fits (part_of (spaced apart v) offset count size) bytes)
    (raw_bytes (part_of (spaced apart v) offset count size) bytes)
fits_spaced v apart offset count size bytes raw n some at is =
    fits_at (part_of (spaced apart v) offset count size) bytes raw n
    (at ∙ sym (spaced_stride v apart size some))
    (relies v apart offset count n size bytes raw is)

-- ---- at the size of an item they are one right behind the other, as without a distance

module _ (n : ℕ) (some : 0 < n) where
  abbrev at : Option View → ℕ → ℕ → Option Part
  at v offset count = option_map (λ v. part_of v offset count n) v

  same_stride : (v : View) → stride v n ≡ stride (spaced n v) n
  same_stride v = sym (spaced_stride v n n some)

  fits_to : (v : View) (offset count : ℕ) (bytes : List ℕ) → Fits (part_of v offset count n) bytes
      → Fits (part_of (spaced n v) offset count n) bytes
  fits_to v offset count bytes h = record {
    some = h.some;
    apart = subst (λ (m : ℕ). n ≤ m) (same_stride v) h.apart;
    view_within = h.view_within;
    items_within =
        subst (λ (m : ℕ). offset + m * (count - 1) + n ≤ v.byte_length) (same_stride v)
        h.items_within;
  }

  fits_back : (v : View) (offset count : ℕ) (bytes : List ℕ)
      → Fits (part_of (spaced n v) offset count n) bytes → Fits (part_of v offset count n) bytes
  fits_back v offset count bytes h = record {
    some = h.some;
    apart = subst (λ (m : ℕ). n ≤ m) (sym (same_stride v)) h.apart;
    view_within = h.view_within;
    items_within =
        subst (λ (m : ℕ). offset + m * (count - 1) + n ≤ v.byte_length) (sym (same_stride v))
        h.items_within;
  }

  part_to : (v : Option View) (offset count : ℕ) (given : Option (List ℕ))
      → PartReadable (at v offset count) given
      → PartReadable (spaced_part n (at v offset count)) given
  part_to None offset count given h = h
  part_to (Some v) offset count None h = h
  part_to (Some v) offset count (Some bytes) h = fits_to v offset count bytes h

  part_back : (v : Option View) (offset count : ℕ) (given : Option (List ℕ))
      → PartReadable (spaced_part n (at v offset count)) given
      → PartReadable (at v offset count) given
  part_back None offset count given h = h
  part_back (Some v) offset count None h = h
  part_back (Some v) offset count (Some bytes) h = fits_back v offset count bytes h

  base_to : (v : Option View) (offset count : ℕ) (given : Option (List ℕ))
      → BaseReadable count (at v offset count) given
      → BaseReadable count (spaced_part n (at v offset count)) given
  base_to None offset count given h = h
  base_to (Some v) offset count None h = h
  base_to (Some v) offset count (Some bytes) h = fits_to v offset count bytes h

  base_back : (v : Option View) (offset count : ℕ) (given : Option (List ℕ))
      → BaseReadable count (spaced_part n (at v offset count)) given
      → BaseReadable count (at v offset count) given
  base_back None offset count given h = h
  base_back (Some v) offset count None h = h
  base_back (Some v) offset count (Some bytes) h = fits_back v offset count bytes h

  asked_to : (Gives : Results) (r : Root) (v : Option View) (offset count : ℕ)
      (given : Option (List ℕ)) → IsAnsweredFor Gives r (at v offset count) given
      → IsAnsweredFor Gives r (spaced_part n (at v offset count)) given
  asked_to Gives r None offset count given h = h
  asked_to Gives r (Some v) offset count given h = h

  answer_same : (always : ℕ → Option (List ℕ)) (v : Option View) (offset count : ℕ)
      → answer_for always (at v offset count)
      ≡ answer_for always (spaced_part n (at v offset count))
  answer_same always None offset count = refl
  answer_same always (Some v) offset count = refl

  module _ {X : Type 0} (value : List ℕ → X) where
    in_same : (v : View) (offset count : ℕ) (given : Option (List ℕ))
        → items_in value (part_of v offset count n) given
        ≡ items_in value (part_of (spaced n v) offset count n) given
    unfolding addressed
    in_same v offset count None = refl
    in_same v offset count (Some bytes) =
        ap (λ (m : ℕ). map (λ i. value (drop (view_offset v + offset + i * m) bytes))
        (range_with_len 0 count)) (same_stride v)

    part_same : (v : Option View) (offset count : ℕ) (given : Option (List ℕ))
        → part_items value (at v offset count) given
        ≡ part_items value (spaced_part n (at v offset count)) given
    part_same None offset count given = refl
    part_same (Some v) offset count given = in_same v offset count given

    base_same : (v : Option View) (offset count : ℕ) (given : Option (List ℕ))
        → base_items value (at v offset count) given
        ≡ base_items value (spaced_part n (at v offset count)) given
    base_same None offset count given = refl
    base_same (Some v) offset count given = ap Some (in_same v offset count given)

  -- ---- so an accessor is read alike

  module _ (r : Root) (a : Accessor) where
    abbrev base_view : Option View
    base_view = option_and_then (view_at r) a.buffer_view

    abbrev offset : ℕ
    offset = unwrap_or a.byte_offset 0

    asked_at : (Gives : Results) (s : Option Sparse) (o : Answers)
        → ArePartsAsked Gives n r a s o → AreAsked Gives n n r a s o
    asked_at Gives None o h = asked_to Gives r base_view offset a.count o.base h
    asked_at Gives (Some s) o h = record {
      base = asked_to Gives r base_view offset a.count o.base h.base;
      indices = λ ready. h.indices (base_back base_view offset a.count o.base ready);
      values = λ ready others.
          asked_to Gives r (view_at r s.values.buffer_view) s.values.byte_offset s.count o.values
          (h.values (base_back base_view offset a.count o.base ready) others);
    }

    with_same : (always : ℕ → Option (List ℕ)) (s : Option Sparse)
        → answers_with always n r a s ≡ answers_at always n n r a s
    with_same always None =
        ap (λ (b : Option (List ℕ)). record { base = b; indices = None; values = None })
        (answer_same always base_view offset a.count)
    with_same always (Some s) =
        ap (λ (b : Option (List ℕ)). record {
          base = b;
          indices = answer_for always (index_part r s);
          values = answer_for always (value_part n r s);
        }) (answer_same always base_view offset a.count)
        ∙ ap (λ (b : Option (List ℕ)). record {
          base = answer_for always (base_at n n r a);
          indices = answer_for always (index_part r s);
          values = b;
        }) (answer_same always (view_at r s.values.buffer_view) s.values.byte_offset s.count)

    module _ {X : Type 0} (value : List ℕ → X) (nil : X) where
      abbrev t : Ghosts X
      t = record { size = n; value = value; zero_item = nil }

      there_to : (s : Option Sparse) (o : Answers) → PartsReadable n r a s o
          → PartsThere n n r a s o
      there_to None o h = part_to base_view offset a.count o.base h
      there_to (Some s) o h = record {
        base = base_to base_view offset a.count o.base h.base;
        indices = h.indices;
        values = part_to (view_at r s.values.buffer_view) s.values.byte_offset s.count o.values
            h.values;
      }

      there_back : (s : Option Sparse) (o : Answers) → PartsThere n n r a s o
          → PartsReadable n r a s o
      there_back None o h = part_back base_view offset a.count o.base h
      there_back (Some s) o h = record {
        base = base_back base_view offset a.count o.base h.base;
        indices = h.indices;
        values = part_back (view_at r s.values.buffer_view) s.values.byte_offset s.count o.values
            h.values;
      }

      items_same : (s : Option Sparse) (o : Answers)
          → items_with t r a s o ≡ taken_items n t r a s o
      items_same None o = part_same value base_view offset a.count o.base
      items_same (Some s) o =
          ap (λ b. sparse nil b a.count (index_items r s o.indices)
          (part_items value (value_part n r s) o.values))
          (base_same value base_view offset a.count o.base)
          ∙ ap (λ v. sparse nil (base_items value (base_at n n r a) o.base) a.count
          (index_items r s o.indices) v)
          (part_same value (view_at r s.values.buffer_view) s.values.byte_offset s.count o.values)

      exactly_at : (s : Option Sparse) (xs : Option (List X)) (o : Answers)
          → SomeIff xs (PartsReadable n r a s o) (items_with t r a s o)
          → SomeIff xs (PartsThere n n r a s o) (taken_items n t r a s o)
      exactly_at s None o is = λ there. is (there_back s o there)
      exactly_at s (Some xs) o is = (there_to s o is.0, is.1 ∙ items_same s o)

      parts_by : n ≡ item_size a → (xs : Option (List X)) (o : Answers)
          → SomeIff xs (Readable n r a o) (items t r a o)
          → SomeIff xs (PartsReadable n r a a.sparse o) (items_with t r a a.sparse o)
      parts_by same None o is = λ parts. is (record { same_size = same; parts = parts })
      parts_by same (Some xs) o is = (is.0.parts, is.1)

      -- what is read as items of an accessor's own size is read so at the distance of that size
      pub parts_of : {Gives : Results} → n ≡ item_size a → (xs : Option (List X))
          → Reads Gives t r a xs → ReadsAlike Gives t r a xs → TakesParts Gives n t r a a.sparse xs
      parts_of {Gives = Gives} same xs reads alike = record {
        answers = reads.answers;
        asked = asked_at Gives a.sparse reads.answers (reads.asked same);
        exactly = exactly_at a.sparse xs reads.answers
            (parts_by same xs reads.answers reads.exactly);
        alike = λ always gives.
            exactly_at a.sparse xs (answers_at always n n r a a.sparse)
            (subst (λ o. SomeIff xs (PartsReadable n r a a.sparse o) (items_with t r a a.sparse o))
            (with_same always a.sparse)
            (parts_by same xs (answers_by always n r a) (alike always gives)));
      }
