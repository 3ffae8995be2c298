-- The list `plain`, of the items at the steps of a stride: its length, its items, what is left
-- after the first ones (`drop-plain`), and the items of a cut slice (`plain-cut`). For `Lefts`, on
-- which the contracts of `ItemIter` rest, and for the laws `plain_by_position` and
-- `items_of_a_cut`. All rest on one fact: i is below `fitting` exactly where its bytes are there
-- (`fitting_within`, `fitting_from`). Two counts are compared by what is below them
-- (`le_from_below`), and two lists by their lengths and items (`same_lists`).
use Rattle.std.proofs.Common.{◌≡◌, ℕ, suc, ◌+◌, ◌-◌, ◌*◌, ◌/◌, ◌<◌, ◌≤◌, List, map, length, take}
use Rattle.std.proofs.Common.{drop, get_or, Some, refl, inl, inr, sym, ap, ◌∙◌, arith, length-drop}
use Rattle.std.proofs.Math.Nat.{le-div_iff_mul-le, add-div_right}
use Rattle.std.proofs.lemmas.List.{drop-drop, drop-take, length-take-le, same_lists, get_or-drop}
use Rattle.std.proofs.lemmas.List.FromFn.{length-map-range_with_len, get_or-map-range_with_len}
use Rattle.std.proofs.lemmas.Option.{slice_get-get_or, slice_get_past}
use Rattle.std.proofs.lemmas.Bool.{cases_lt}
use Rattle.std.specs.Prelude.{slice_get, SomeIff}
use Rattle.std.specs.List.{range_with_len}
use Rattle.gltf_items.specs.Reading.{ReadsFront}
use Rattle.gltf_items.specs.ReadingLemmas.{longer_front}
use Rattle.gltf_items.specs.Plain.{fitting, plain}

-- i is below the count exactly where its item's bytes are there
pub fitting_within : (size stride n i : ℕ) → 0 < size → size ≤ stride → i < fitting size stride n
    → i * stride + size ≤ n
fitting_within size stride n i some apart h =
    let most : suc i * stride ≤ n + stride - size =
    (le-div_iff_mul-le {k = stride} {x = suc i} {y = n + stride - size} (omega arith)).0
    (omega arith) in
    omega arith

pub fitting_from : (size stride n i : ℕ) → 0 < size → size ≤ stride → i * stride + size ≤ n
    → i < fitting size stride n
fitting_from size stride n i some apart h =
    let least : suc i ≤ fitting size stride n =
    (le-div_iff_mul-le {k = stride} {x = suc i} {y = n + stride - size} (omega arith)).1
    (omega arith) in
    omega arith

pub le_from_below : (a b : ℕ) → ((i : ℕ) → i < a → i < b) → a ≤ b
le_from_below a b below =
    elim (cases_lt b a) [ inl more ↦ absurd (omega (arith, below b more)) | inr less ↦ less ]

-- past k strides there are k fewer
fitting-past : (size stride n k : ℕ) → 0 < size → size ≤ stride
    → fitting size stride (n - k * stride) ≡ fitting size stride n - k
fitting-past size stride n k some apart =
    let fewer : fitting size stride (n - k * stride) ≤ fitting size stride n - k =
    le_from_below _ _ (λ i h.
    let inner : i * stride + size ≤ n - k * stride =
    fitting_within size stride (n - k * stride) i some apart h in
    let outer : k + i < fitting size stride n =
    fitting_from size stride n (k + i) some apart (omega arith) in
    omega arith) in
    let more : fitting size stride n - k ≤ fitting size stride (n - k * stride) =
    le_from_below _ _ (λ i h.
    let outer : (k + i) * stride + size ≤ n =
    fitting_within size stride n (k + i) some apart (omega arith) in
    fitting_from size stride (n - k * stride) i some apart (omega arith)) in
    omega arith

-- where the bytes end with the last of `count` items, that many fit
fitting_counted : (size stride count n : ℕ) → 0 < size → size ≤ stride → 0 < count
    → n ≡ stride * (count - 1) + size → fitting size stride n ≡ count
fitting_counted size stride count n some apart counted is =
    let most : fitting size stride n ≤ count =
    le_from_below _ _ (λ i h. grind (arith, fitting_within size stride n i some apart h)) in
    let last : count - 1 < fitting size stride n =
    fitting_from size stride n (count - 1) some apart (omega arith) in
    omega arith

module _ {X : Type 0} (size : ℕ) (value : List ℕ → X) (bytes : List ℕ) (stride : ℕ) where
  pub length-plain : length (plain size value bytes stride) ≡ fitting size stride (length bytes)
  unfolding plain
  length-plain = length-map-range_with_len _ 0 (fitting size stride (length bytes))

  pub get_or-plain : (i : ℕ) (d : X) → i < length (plain size value bytes stride)
      → get_or (plain size value bytes stride) i d ≡ value (drop (i * stride) bytes)
  unfolding plain
  get_or-plain i d h = get_or-map-range_with_len (λ i. value (drop (i * stride) bytes)) 0
      (fitting size stride (length bytes)) i i d (omega (arith, length-plain)) (omega arith)

  pub slice_get-plain : (i : ℕ) → i < length (plain size value bytes stride)
      → slice_get (plain size value bytes stride) i ≡ Some (value (drop (i * stride) bytes))
  slice_get-plain i h = slice_get-get_or (plain size value bytes stride) i
      (value (drop (i * stride) bytes)) h ∙ ap Some (get_or-plain i _ h)

  -- the bytes of an item are there
  pub plain_within : (i : ℕ) → 0 < size → size ≤ stride → i < length (plain size value bytes stride)
      → i * stride + size ≤ length bytes
  plain_within i some apart h =
      fitting_within size stride (length bytes) i some apart (omega (arith, length-plain))

  -- where fewer bytes than an item has are left, no item is
  pub plain_none : 0 < size → size ≤ stride → length bytes < size
      → length (plain size value bytes stride) ≡ 0
  plain_none some apart h =
      let none : fitting size stride (length bytes) ≤ 0 =
      le_from_below _ _ (λ i below. absurd
      (omega (arith, fitting_within size stride (length bytes) i some apart below))) in
      omega (arith, length-plain)

  -- else there is the first one, and one for each whole stride after it
  pub plain_some : 0 < size → size ≤ stride → size ≤ length bytes
      → length (plain size value bytes stride) ≡ (length bytes - size) / stride + 1
  plain_some some apart h =
      let turn : length bytes + stride - size ≡ length bytes - size + stride = omega arith in
      length-plain ∙ ap (λ (n : ℕ). n / stride) turn
      ∙ add-div_right (length bytes - size) (omega arith)

  -- item i is there exactly where its bytes are, and is what these spell
  pub plain_by_position : (i : ℕ) → 0 < size → size ≤ stride
      → SomeIff (slice_get (plain size value bytes stride) i) (i * stride + size ≤ length bytes)
      (value (drop (i * stride) bytes))
  plain_by_position i some apart =
      elim (cases_lt i (length (plain size value bytes stride))) [
        | inl there ↦ rw (slice_get-plain i there) (plain_within i some apart there, refl)
        | inr past ↦ rw (slice_get_past (plain size value bytes stride) i past)
            (λ room. omega (
              arith,
              length-plain,
              fitting_from size stride (length bytes) i some apart room,
            ))
      ]

-- what is left after the first k items is the list of the bytes after k strides
pub drop-plain : {X : Type 0} (size : ℕ) (value : List ℕ → X) (bytes : List ℕ) (stride k : ℕ)
    → 0 < size → size ≤ stride → plain size value (drop (k * stride) bytes) stride
    ≡ drop k (plain size value bytes stride)
drop-plain size value bytes stride k some apart =
    let fewer : length (plain size value (drop (k * stride) bytes) stride)
    ≡ length (drop k (plain size value bytes stride)) =
    omega (
      arith,
      length-plain size value bytes stride,
      length-plain size value (drop (k * stride) bytes) stride,
      length-drop k (plain size value bytes stride),
      ap (fitting size stride) (length-drop (k * stride) bytes),
      fitting-past size stride (length bytes) k some apart,
    ) in
    same_lists _ _ fewer (λ i d h.
    let far : k + i < length (plain size value bytes stride) =
    omega (arith, length-drop k (plain size value bytes stride)) in
    get_or-plain size value (drop (k * stride) bytes) stride i d h
    ∙ ap value (drop-drop (i * stride) (k * stride) bytes
    ∙ ap (λ (j : ℕ). drop j bytes) (omega arith))
    ∙ sym (get_or-drop k (plain size value bytes stride) i d
    ∙ get_or-plain size value bytes stride (k + i) d far))

module _ {X : Type 0} (size : ℕ) (value : List ℕ → X) (bytes : List ℕ) (stride start count : ℕ)
    (front : ReadsFront size value) (some : 0 < size) (apart : size ≤ stride) (counted : 0 < count)
    (room : start + (stride * (count - 1) + size) ≤ length bytes) where
  -- the bytes from the first item to the end of the last one are all there
  pub length-cut : length (take (stride * (count - 1) + size) (drop start bytes))
      ≡ stride * (count - 1) + size
  length-cut = length-take-le (stride * (count - 1) + size) (drop start bytes)
      (omega (arith, length-drop start bytes))

  item-cut : (i : ℕ) → i * stride + size ≤ stride * (count - 1) + size
      → value (drop (i * stride) (take (stride * (count - 1) + size) (drop start bytes)))
      ≡ value (drop (start + i * stride) bytes)
  item-cut i h =
      let rest : ℕ = stride * (count - 1) + size - i * stride in
      let whole : stride * (count - 1) + size ≡ i * stride + rest = omega arith in
      let cut : drop (i * stride) (take (stride * (count - 1) + size) (drop start bytes))
      ≡ take rest (drop (start + i * stride) bytes) =
      ap (λ (n : ℕ). drop (i * stride) (take n (drop start bytes))) whole
      ∙ drop-take (i * stride) rest (drop start bytes)
      ∙ ap (take rest) (drop-drop (i * stride) start bytes
      ∙ ap (λ (n : ℕ). drop n bytes) (omega arith)) in
      ap value cut ∙ longer_front size rest value (drop (start + i * stride) bytes) front
      (omega arith) (omega (arith, length-drop (start + i * stride) bytes))

  -- the items of the slice from the first of `count` items to the end of the last one are what
  -- stands at start + i * stride
  pub plain-cut : plain size value (take (stride * (count - 1) + size) (drop start bytes)) stride
      ≡ map (λ i. value (drop (start + i * stride) bytes)) (range_with_len 0 count)
  plain-cut =
      let long : length (plain size value
      (take (stride * (count - 1) + size) (drop start bytes)) stride) ≡ count =
      length-plain size value (take (stride * (count - 1) + size) (drop start bytes)) stride
      ∙ fitting_counted size stride count
      (length (take (stride * (count - 1) + size) (drop start bytes)))
      some apart counted length-cut in
      same_lists _ _ (long ∙ sym (length-map-range_with_len _ 0 count)) (λ i d h.
      let below : i < count = omega (arith, long) in
      let within : i * stride + size ≤ stride * (count - 1) + size = grind (arith, apart) in
      get_or-plain size value _ stride i d h ∙ item-cut i within
      ∙ sym (get_or-map-range_with_len
      (λ j. value (drop (start + j * stride) bytes)) 0 count i i d below (omega arith)))
