-- Items that lie one right behind the other in a view: their bytes there are those of all items.
use Rattle.std.proofs.Common.{◌≡◌, ℕ, zero, suc, ◌+◌, ◌-◌, ◌*◌, ◌<◌, ◌≤◌, List, ◌++◌, length, take}
use Rattle.std.proofs.Common.{drop, map, refl, sym, ap, subst, ◌∙◌, arith}
use Rattle.std.specs.Prelude.{Option, Some, None, SomeIff, unwrap_or, option_and_then}
use Rattle.std.specs.Option.{option_map}
use Rattle.std.specs.List.{concat, range_with_len}
use Rattle.std.proofs.Math.Seq.{take-add}
use Rattle.std.proofs.lemmas.List.{drop-drop, length-take-le, length-drop}
use Rattle.std.proofs.lemmas.List.FromFn.{length-map-range_with_len}
use Rattle.gltf_json.specs.declared.root.Root.{Root}
use Rattle.gltf_json_geometry.specs.declared.accessor.Accessor.{Accessor}
use Rattle.gltf_json_geometry.specs.declared.buffer.View.{View}
use Rattle.gltf_handles.specs.Sizes.{item_size}
use Rattle.gltf_items.specs.declared.item.Item.{Ghosts}
use Rattle.gltf_data.specs.Answers.{Results, IsAnswered, IsAnsweredFor, ArePartsAsked, IsAsked}
use Rattle.gltf_data.specs.Answers.{Reads, ReadsAlike, answer_for, answers_with, answers_by}
use Rattle.gltf_data.specs.Parts.{Part, part_of, Answers, Fits, FitsIn, PartReadable, PartsReadable}
use Rattle.gltf_data.specs.Parts.{Readable, addressed, items_in, part_items, base_part, items_with}
use Rattle.gltf_data.specs.Parts.{items, view_at, view_offset, stride}
use Rattle.gltf_access.specs.Flat.{front, as_bytes}
use Rattle.gltf_access.specs.Raw.{Raw, IsLent, whole_part, part_view, IsRawPart, raw_bytes}
use Rattle.gltf_access.specs.Packed.{IsPacked, ArePackedItems}

-- ---- the bytes of items one right behind the other

-- from item j on, k items
joined : (n base : ℕ) (bytes : List ℕ) (j k : ℕ)
    → concat (map (λ i. take n (drop (base + i * n) bytes)) (range_with_len j k))
    ≡ take (k * n) (drop (base + j * n) bytes)
joined n base bytes j zero =
    let none : 0 ≡ 0 * n = omega arith in
    ap (λ (m : ℕ). take m (drop (base + j * n) bytes)) none
joined n base bytes j (suc k) =
    let here = drop (base + j * n) bytes in
    let on : base + (j + 1) * n ≡ base + j * n + n = omega arith in
    let all : n + k * n ≡ suc k * n = omega arith in
    ap (λ (z : List ℕ). take n here ++ z) (joined n base bytes (j + 1) k)
    ∙ ap (λ (m : ℕ). take n here ++ take (k * n) (drop m bytes)) on
    ∙ ap (λ (z : List ℕ). take n here ++ take (k * n) z) (sym (drop-drop n (base + j * n) bytes))
    ∙ sym (take-add n (k * n) here)
    ∙ ap (λ (m : ℕ). take m here) all

more : (n j : ℕ) → n * j + n ≡ suc j * n
more n j = omega arith

-- to the end of the last item there are the bytes of all
span : (n k : ℕ) → 0 < k → n * (k - 1) + n ≡ k * n
span n k some =
    let is : suc (k - 1) ≡ k = omega (arith, some) in
    more n (k - 1) ∙ ap (λ (m : ℕ). m * n) is

-- so the bytes to that end are those of all items, at a stride that is the size of an item
joined_all : (n s base : ℕ) (bytes : List ℕ) (k : ℕ) → s ≡ n → 0 < k
    → take (s * (k - 1) + n) (drop base bytes)
    ≡ concat (map (λ i. take n (drop (base + i * s) bytes)) (range_with_len 0 k))
joined_all n s base bytes k is some =
    let at : base + 0 * n ≡ base = omega arith in
    ap (λ (m : ℕ). take (m * (k - 1) + n) (drop base bytes)) is
    ∙ ap (λ (m : ℕ). take m (drop base bytes)) (span n k some)
    ∙ ap (λ (m : ℕ). take (k * n) (drop m bytes)) (sym at)
    ∙ sym (joined n base bytes 0 k)
    ∙ ap (λ (m : ℕ). concat (map (λ i. take n (drop (base + i * m) bytes)) (range_with_len 0 k)))
    (sym is)

-- and there are as many as the items have
length_all : (n s base : ℕ) (bytes : List ℕ) (k : ℕ) → s ≡ n → 0 < k
    → base + (s * (k - 1) + n) ≤ length bytes
    → length (take (s * (k - 1) + n) (drop base bytes)) ≡ k * n
length_all n s base bytes k is some room =
    let fits : s * (k - 1) + n ≤ length (drop base bytes) =
    omega (arith, room, length-drop base bytes) in
    length-take-le (s * (k - 1) + n) (drop base bytes) fits
    ∙ ap (λ (m : ℕ). m * (k - 1) + n) is ∙ span n k some

-- ---- what is read of an accessor that has a view and no sparse part

module _ (Gives : Results) (r : Root) (a : Accessor) (t : Ghosts (List ℕ)) (v : View)
    (same : t.size ≡ item_size a) (plain : a.sparse ≡ None)
    (at : option_and_then (view_at r) a.buffer_view ≡ Some v) where
  abbrev pub part : Part
  part = part_of v (unwrap_or a.byte_offset 0) a.count t.size

  base_is : base_part t.size r a ≡ Some part
  base_is =
      ap (λ o. option_map (λ v. part_of v (unwrap_or a.byte_offset 0) a.count t.size) o) at

  abbrev by : Option (List ℕ) → Answers
  by answer = record { base = answer; indices = None; values = None }

  asked : (answer : Option (List ℕ)) → IsAnswered Gives r v.buffer answer
      → IsAsked Gives t.size r a (by answer)
  asked answer h is =
      subst (λ s. ArePartsAsked Gives t.size r a s (by answer)) (sym plain)
      (subst (λ p. IsAnsweredFor Gives r p answer) (sym base_is) h)

  readable : (answer : Option (List ℕ)) → FitsIn part answer → Readable t.size r a (by answer)
  readable answer fits = record {
    same_size = same;
    parts =
        subst (λ s. PartsReadable t.size r a s (by answer)) (sym plain)
        (subst (λ p. PartReadable p answer) (sym base_is) fits);
  }

  fitting : (answer : Option (List ℕ)) → Readable t.size r a (by answer) → FitsIn part answer
  fitting answer h =
      subst (λ p. PartReadable p answer) base_is
      (subst (λ s. PartsReadable t.size r a s (by answer)) plain h.parts)

  items_are : (answer : Option (List ℕ))
      → items t r a (by answer) ≡ items_in t.value part answer
  items_are answer =
      ap (λ s. items_with t r a s (by answer)) plain
      ∙ ap (λ p. part_items t.value p answer) base_is

  exactly : (answer : Option (List ℕ)) (result : Option (List (List ℕ)))
      → SomeIff result (FitsIn part answer) (items_in t.value part answer)
      → SomeIff result (Readable t.size r a (by answer)) (items t r a (by answer))
  exactly answer None h = λ there. h (fitting answer there)
  exactly answer (Some xs) h = (readable answer h.0, h.1 ∙ sym (items_are answer))

  with_is : (always : ℕ → Option (List ℕ))
      → answers_by always t.size r a ≡ by (always v.buffer)
  with_is always =
      ap (λ s. answers_with always t.size r a s) plain
      ∙ ap (λ p. by (answer_for always p)) base_is

  pub reads : (answer : Option (List ℕ)) → IsAnswered Gives r v.buffer answer
      → (result : Option (List (List ℕ)))
      → SomeIff result (FitsIn part answer) (items_in t.value part answer)
      → Reads Gives t r a result
  reads answer h result is = record {
    answers = by answer;
    asked = asked answer h;
    exactly = exactly answer result is;
  }

  pub alike : (answer : Option (List ℕ)) → IsAnswered Gives r v.buffer answer
      → (result : Option (List (List ℕ)))
      → SomeIff result (FitsIn part answer) (items_in t.value part answer)
      → ReadsAlike Gives t r a result
  alike answer h result is always gives =
      let same_answer : answer ≡ always v.buffer =
      sym h.is_answer ∙ gives h.buffer h.given v.buffer h.is_buffer h.result in
      subst (λ o. SomeIff result (Readable t.size r a o) (items t r a o)) (sym (with_is always))
      (exactly (always v.buffer) result
      (subst (λ b. SomeIff result (FitsIn part b) (items_in t.value part b)) same_answer is))

  -- where the bytes of the items lie
  pub lent_part : (raw : Option Raw)
      → IsLent Gives r (part_view (whole_part r a a.sparse))
      (λ given. IsRawPart (whole_part r a a.sparse) given raw)
      → IsLent Gives r (Some v) (λ given. IsRawPart (Some part) given raw)
  lent_part raw h =
      let whole : whole_part r a a.sparse ≡ Some part =
      ap (λ s. whole_part r a s) plain
      ∙ ap (λ n. base_part n r a) (sym same) ∙ base_is in
      subst (λ p. IsLent Gives r (part_view p) (λ given. IsRawPart p given raw)) whole h

-- ---- all of it

front_is : (n : ℕ) → 0 < n → front n ≡ n
front_is zero some = omega (arith, some)
front_is (suc n) some = refl

module _ (Gives : Results) (r : Root) (a : Accessor) (c : IsPacked r a) where
  abbrev t : Ghosts (List ℕ)
  t = as_bytes (item_size a)

  same : t.size ≡ item_size a
  same = front_is (item_size a) c.some

  abbrev p : Part
  p = part_of c.view (unwrap_or a.byte_offset 0) a.count t.size

  of_items : (bytes : List ℕ) → Fits p bytes
      → ((raw_bytes p bytes).bytes ≡ concat (items_in t.value p (Some bytes)))
      × (length (raw_bytes p bytes).bytes ≡ a.count * item_size a)
  unfolding addressed
  of_items bytes fits =
      let n = item_size a in
      let start = view_offset c.view + unwrap_or a.byte_offset 0 in
      let s : stride c.view n ≡ n = c.packed in
      let at_n : Fits (part_of c.view (unwrap_or a.byte_offset 0) a.count n) bytes =
      subst (λ k. Fits (part_of c.view (unwrap_or a.byte_offset 0) a.count k) bytes) same fits in
      let room : start + (stride c.view n * (a.count - 1) + n) ≤ length bytes =
      omega (arith, at_n.view_within, at_n.items_within) in (
        subst (λ k. take (stride c.view k * (a.count - 1) + k) (drop start bytes)
            ≡ concat (map (λ i. take n (drop (start + i * stride c.view k) bytes))
            (range_with_len 0 a.count))) (sym same)
            (joined_all n (stride c.view n) start bytes a.count s fits.some),
        subst (λ k. length (take (stride c.view k * (a.count - 1) + k) (drop start bytes))
            ≡ a.count * n) (sym same)
            (length_all n (stride c.view n) start bytes a.count s fits.some room),
      )

  many : (bytes : List ℕ) → length (items_in t.value p (Some bytes)) ≡ a.count
  unfolding addressed
  many bytes = length-map-range_with_len _ 0 a.count

  by_answer : (answer : Option (List ℕ)) → IsAnswered Gives r c.view.buffer answer
      → (raw : Option Raw) → IsRawPart (Some p) answer raw
      → ArePackedItems Gives r a (option_map (λ b. b.bytes) raw)
  by_answer None h raw is = record {
    items = None;
    reads = reads Gives r a t c.view same c.plain c.at None h None (λ x. x);
    alike = alike Gives r a t c.view same c.plain c.at None h None (λ x. x);
    all = ap (λ o. option_map (λ b. b.bytes) o) is;
  }
  by_answer (Some bytes) h None is = record {
    items = None;
    reads = reads Gives r a t c.view same c.plain c.at (Some bytes) h None is;
    alike = alike Gives r a t c.view same c.plain c.at (Some bytes) h None is;
    all = refl;
  }
  by_answer (Some bytes) h (Some raw) is =
      let xs = items_in t.value p (Some bytes) in
      let flat = of_items bytes is.0 in
      record {
        items = Some xs;
        reads = reads Gives r a t c.view same c.plain c.at (Some bytes) h (Some xs) (is.0, refl);
        alike = alike Gives r a t c.view same c.plain c.at (Some bytes) h (Some xs) (is.0, refl);
        all = (
          ap (λ b. Some b.bytes) is.1 ∙ ap Some flat.0,
          ap (λ (l : List ℕ). length l) (sym flat.0) ∙ flat.1
              ∙ ap (λ (k : ℕ). k * item_size a) (sym (many bytes)),
        );
      }

  pub packed_items : (raw : Option Raw)
      → IsLent Gives r (part_view (whole_part r a a.sparse))
      (λ given. IsRawPart (whole_part r a a.sparse) given raw)
      → ArePackedItems Gives r a (option_map (λ b. b.bytes) raw)
  packed_items raw h =
      let lent = lent_part Gives r a t c.view same c.plain c.at raw h in
      by_answer lent.answer lent.answered raw lent.is_by
