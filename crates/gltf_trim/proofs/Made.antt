-- What is counted over lists of values is what the definitions say of the document.
use Rattle.std.proofs.Common.{◌≡◌, ℕ, zero, suc, ◌+◌, ◌-◌, List, [], ◌∷◌, length, drop}
use Rattle.std.proofs.Common.{take, min, replicate, get_or, Bool, true, false, refl, sym, ap, ◌∙◌}
use Rattle.std.proofs.Common.{codes, arith, Option, ⊎_elim}
use Rattle.std.proofs.lemmas.Bool.{cases_lt, eqb-true, and_parts}
use Rattle.std.proofs.lemmas.List.{drop_min, take_min, take_rest, get_or-drop, get_or_past}
use Rattle.std.specs.Prelude.{if◌then◌else◌, ◌==◌, ◌&&◌}
use Rattle.serde_json.specs.Data.{Data, Items, no_items, item}
use Rattle.serde_json.specs.Events.{items_len}
use Rattle.serde_json.specs.View.{items_view}
use Rattle.serde_json.specs.declared.value.Value.{Value}
use Rattle.gltf_edit.specs.Embedded.{items_at, count_at}
use Rattle.gltf_trim.specs.Known.{is_plain}
use Rattle.gltf_trim.specs.Lengths.{marked_buffer, raised_by, all_shorter, lengths, take_items}
use Rattle.gltf_trim.specs.Lengths.{drop_items, shorter_if, is_in_some, may_go, holds_from}
use Rattle.gltf_trim.specs.Lengths.{all_may_go}
use Rattle.gltf_trim.specs.Marks.{folded, marked_image, marked_accessor, before_marked, staying}
use Rattle.gltf_trim.specs.Passed.{ArePassed}
use Rattle.gltf_trim.specs.Tails.{tail, all_tails, byte_at, is_blank}
use Rattle.gltf_trim.specs.TrimmedLaws.{holds_at}
use Rattle.gltf_trim.proofs.Behind.{holds_all, zero_may}
use Rattle.gltf_trim.proofs.Cleared.{same_test}
use Rattle.gltf_trim.proofs.Elements.{taken, dropped, counted}

pub count_is : (k : List ℕ) (d : Data) (vs : List Value) → items_view vs ≡ items_at k d
    → length vs ≡ count_at k d
count_is k d vs is = sym (counted vs) ∙ ap items_len is

-- ---- what stands behind

blank_at : (xs : List ℕ) (k : ℕ) → is_blank xs ≡ true → get_or xs k 0 ≡ 0
blank_at [] k is = refl
blank_at (x ∷ xs) zero is = eqb-true x 0 (and_parts (x == 0) (is_blank xs) is).0
blank_at (x ∷ xs) (suc k) is = blank_at xs k (and_parts (x == 0) (is_blank xs) is).1

blank_all : (xs : List ℕ) → ((k : ℕ) → get_or xs k 0 ≡ 0) → is_blank xs ≡ true
blank_all [] all = refl
blank_all (x ∷ xs) all =
    ap (λ (n : ℕ). (n == 0) && is_blank xs) (all zero) ∙ blank_all xs (λ k. all (suc k))

tail_none : (mark : Bool) (e : ℕ) → tail mark e [] ≡ []
tail_none true zero = refl
tail_none true (suc e) = refl
tail_none false e = refl

tail_at : (ms : List Bool) (ends : List ℕ) (i : ℕ) (bs : List (List ℕ)) (b k : ℕ) → k ≡ i + b
    → get_or (all_tails ms ends i bs) b []
    ≡ tail (get_or ms k false) (get_or ends k 0) (get_or bs b [])
tail_at ms ends i [] b k is = sym (tail_none (get_or ms k false) (get_or ends k 0))
tail_at ms ends i (x ∷ bs) zero k is =
    ap (λ (n : ℕ). tail (get_or ms n false) (get_or ends n 0) x)
    (let same : i ≡ k = omega (arith, is) in same)
tail_at ms ends i (x ∷ bs) (suc b) k is =
    tail_at ms ends (i + 1) bs b k (omega (arith, is))

all_same : (f g : ℕ → Bool) (ends : List ℕ) (i : ℕ) (ds : Items) → ((b : ℕ) → f b ≡ g b)
    → all_shorter f ends i ds ≡ all_shorter g ends i ds
all_same f g ends i no_items same = refl
all_same f g ends i (item d ds) same =
    ap (λ (b : Bool). shorter_if b (get_or ends i 0) d ∷ all_shorter f ends (i + 1) ds) (same i)
    ∙ ap (λ (ls : List (Option ℕ)). shorter_if (g i) (get_or ends i 0) d ∷ ls)
    (all_same f g ends (i + 1) ds same)

same_where : (mark x y : Bool) → (mark ≡ true → x ≡ y) → (mark && x) ≡ (mark && y)
same_where true x y same = same refl
same_where false x y same = refl

module _ (ms ls : List Bool) (ends : List ℕ) (bs ts : List (List ℕ)) (gone : Items)
    (passed : ArePassed ms ends bs gone ls)
    (cleared : (b i : ℕ) → byte_at ts b i
    ≡ (if is_in_some b (get_or ends b 0 + i) gone then 0 else byte_at (all_tails ls ends 0 bs) b i))
  where
    module _ (b : ℕ) where
      abbrev e : ℕ
      e = get_or ends b 0

      abbrev bytes : List ℕ
      bytes = get_or bs b []

      zero_both : (t : Bool) (x : ℕ) → x ≡ 0 → ◌≡◌ {A = ℕ} (if t then 0 else x) 0
      zero_both true x is = refl
      zero_both false x is = is

      -- there is no tail
      none_blank : get_or ls b false ≡ false → is_blank (get_or ts b []) ≡ true
      none_blank out =
          blank_all (get_or ts b [])
          (λ k. cleared b k
          ∙ zero_both (is_in_some b (e + k) gone) (byte_at (all_tails ls ends 0 bs) b k)
          (ap (λ (xs : List ℕ). get_or xs k 0)
          (tail_at ls ends 0 bs b b (omega arith)
          ∙ ap (λ (t : Bool). tail t e bytes) out)))

      module _ (mark : get_or ls b false ≡ true) where
        whole : (k : ℕ) → byte_at (all_tails ls ends 0 bs) b k ≡ get_or bytes (e + k) 0
        whole k =
            ap (λ (xs : List ℕ). get_or xs k 0)
            (tail_at ls ends 0 bs b b (omega arith)
            ∙ ap (λ (t : Bool). tail t e bytes) mark)
            ∙ get_or-drop e bytes k 0

        zero_if : (t : Bool) (x y : ℕ) → x ≡ (if t then 0 else y)
            → (x == 0) ≡ (if t then true else y == 0)
        zero_if true x y is = ap (λ (n : ℕ). n == 0) is
        zero_if false x y is = ap (λ (n : ℕ). n == 0) is

        may_at : (k : ℕ) → (byte_at ts b k == 0) ≡ may_go gone b bytes (e + k)
        may_at k =
            zero_if (is_in_some b (e + k) gone) (byte_at ts b k) (get_or bytes (e + k) 0)
            (cleared b k
            ∙ ap (λ (n : ℕ). if is_in_some b (e + k) gone then 0 else n) (whole k))

        zero_at : holds_from (may_go gone b bytes) e (length bytes - e) ≡ true
            → (k : ℕ) → byte_at ts b k ≡ 0
        zero_at all k =
            eqb-true (byte_at ts b k) 0
            (may_at k
            ∙ ⊎_elim {C = may_go gone b bytes (e + k) ≡ true}
            (λ inside. holds_at (may_go gone b bytes) e (length bytes - e) (e + k) all
            (omega arith) (omega arith))
            (λ past. zero_may gone b bytes (e + k) (get_or_past bytes (e + k) 0 past))
            (cases_lt (e + k) (length bytes)))

        same_blank : is_blank (get_or ts b []) ≡ all_may_go gone b bytes e
        same_blank =
            same_test (is_blank (get_or ts b [])) (all_may_go gone b bytes e)
            (λ is. holds_all (may_go gone b bytes) e (length bytes - e)
            (λ k h. sym (may_at k) ∙ ap (λ (n : ℕ). n == 0) (blank_at (get_or ts b []) k is)))
            (λ all. blank_all (get_or ts b []) (zero_at all))

      either : (t : Bool) → get_or ls b false ≡ t → get_or ms b false ≡ true
          → is_blank (get_or ts b []) ≡ all_may_go gone b bytes e
      either true is mark = same_blank is
      either false out mark = none_blank out ∙ sym (passed b mark out)

    pub same_blanks : (ds : Items)
        → all_shorter (λ b. get_or ms b false && is_blank (get_or ts b [])) ends 0 ds
        ≡ all_shorter
        (λ b. get_or ms b false && all_may_go gone b (get_or bs b []) (get_or ends b 0)) ends 0 ds
    same_blanks ds =
        all_same (λ b. get_or ms b false && is_blank (get_or ts b []))
        (λ b. get_or ms b false && all_may_go gone b (get_or bs b []) (get_or ends b 0)) ends 0 ds
        (λ b. same_where (get_or ms b false) (is_blank (get_or ts b []))
        (all_may_go gone b (get_or bs b []) (get_or ends b 0))
        (either b (get_or ls b false) refl))

-- ---- the whole

module _ (d : Data) (n s : ℕ) (vs bs : List Value) (is_min : s ≡ min n (length vs))
    (views : items_view vs ≡ items_at (codes "bufferViews") d)
    (buffers : items_view bs ≡ items_at (codes "buffers") d) where
  those_that_go : items_view (take (length vs - s) (drop s vs))
      ≡ drop_items n (items_at (codes "bufferViews") d)
  those_that_go =
      ap items_view (take_rest vs s)
      ∙ ap (λ (k : ℕ). items_view (drop k vs)) is_min
      ∙ ap items_view (drop_min n vs)
      ∙ dropped n vs
      ∙ ap (drop_items n) views

  those_that_stay : items_view (take s vs) ≡ take_items n (items_at (codes "bufferViews") d)
  those_that_stay =
      ap (λ (k : ℕ). items_view (take k vs)) is_min
      ∙ ap items_view (take_min n vs)
      ∙ taken n vs
      ∙ ap (take_items n) views

  count : length bs ≡ count_at (codes "buffers") d
  count = count_is (codes "buffers") d bs buffers

  abbrev gone : Items
  gone = drop_items n (items_at (codes "bufferViews") d)

  abbrev marks_of : Items → ℕ → List Bool
  marks_of ds k = folded marked_buffer ds (replicate k false)

  abbrev ends_of : Items → ℕ → List ℕ
  ends_of ds k = folded raised_by ds (replicate k 0)

  abbrev left : Items → List Bool → List ℕ → List (List ℕ) → Items → List (Option ℕ)
  left ds ms ends held list =
      all_shorter
      (λ b. get_or ms b false && all_may_go ds b (get_or held b []) (get_or ends b 0)) ends 0 list

  pub are_lengths : (ms ls : List Bool) (ends : List ℕ) (held ts : List (List ℕ))
      → ArePassed ms ends held (items_view (take (length vs - s) (drop s vs))) ls
      → ms ≡ marks_of (items_view (take (length vs - s) (drop s vs))) (length bs)
      → ends ≡ ends_of (items_view (take s vs)) (length bs)
      → ((b i : ℕ) → byte_at ts b i
      ≡ (if is_in_some b (get_or ends b 0 + i) (items_view (take (length vs - s) (drop s vs)))
      then 0 else byte_at (all_tails ls ends 0 held) b i))
      → all_shorter (λ b. get_or ms b false && is_blank (get_or ts b [])) ends 0 (items_view bs)
      ≡ lengths n d held
  are_lengths ms ls ends held ts passed ms_are ends_are cleared =
      let went = items_view (take (length vs - s) (drop s vs)) in
      let own_ends = ends_of (take_items n (items_at (codes "bufferViews") d))
      (count_at (codes "buffers") d) in
      let own_marks = marks_of gone (count_at (codes "buffers") d) in
      same_blanks ms ls ends held ts went passed cleared (items_view bs)
      ∙ ap (λ ds. left ds ms ends held (items_view bs)) those_that_go
      ∙ ap (λ (xs : List Bool). left gone xs ends held (items_view bs))
      (ms_are ∙ ap (λ ds. marks_of ds (length bs)) those_that_go ∙ ap (marks_of gone) count)
      ∙ ap (λ (xs : List ℕ). left gone own_marks xs held (items_view bs))
      (ends_are ∙ ap (λ ds. ends_of ds (length bs)) those_that_stay
      ∙ ap (ends_of (take_items n (items_at (codes "bufferViews") d))) count)
      ∙ ap (λ ds. left gone own_marks own_ends held ds) buffers

module _ (d : Data) (count : ℕ) (is : count ≡ count_at (codes "bufferViews") d) where
  pub all_stay : is_plain d ≡ false → count ≡ staying d
  all_stay other = rw other is

  pub some_stay : is_plain d ≡ true → (ms : List Bool)
      → ms ≡ folded marked_accessor (items_at (codes "accessors") d)
      (folded marked_image (items_at (codes "images") d) (replicate count false))
      → before_marked count ms ≡ staying d
  some_stay plain ms are =
      rw plain
      (ap (λ (xs : List Bool). before_marked count xs) are
      ∙ ap (λ (k : ℕ). before_marked k (folded marked_accessor (items_at (codes "accessors") d)
      (folded marked_image (items_at (codes "images") d) (replicate k false)))) is)
