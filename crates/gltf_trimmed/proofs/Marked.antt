-- A view that an accessor names has no mark, and so it stays.
use Rattle.std.proofs.Common.{◌≡◌, ℕ, zero, suc, ◌<◌, List, [], ◌∷◌, length, get_or, set, Bool}
use Rattle.std.proofs.Common.{true, false, Option, Some, None, refl, sym, ap, subst, ◌∙◌, arith}
use Rattle.std.proofs.Common.{replicate}
use Rattle.std.proofs.Common.{true≢false, codes}
use Rattle.std.proofs.lemmas.List.{length-set, length-replicate}
use Rattle.std.specs.Prelude.{if◌then◌else◌}
use Rattle.serde_json.specs.Data.{Data, Items, no_items, item}
use Rattle.serde_json.specs.Find.{get_item}
use Rattle.gltf_edit.specs.Bundled.{size_at}
use Rattle.gltf_edit.specs.Embedded.{items_at, count_at}
use Rattle.gltf_trim.specs.Marks.{folded, marked, marked_image, marked_accessor, sparse_view}
use Rattle.gltf_trim.specs.Known.{is_plain}
use Rattle.gltf_trim.specs.Marks.{marks, before_marked, staying}

-- there is no mark at an index of a list
pub record IsBare (v : ℕ) (ms : List Bool) : Type 0 where
  pub is : get_or ms v true ≡ false

set_bare : (ms : List Bool) (i v : ℕ) → get_or ms v true ≡ false
    → get_or (set ms i false) v true ≡ false
set_bare [] i v bare = cc
set_bare (m ∷ ms) zero zero bare = refl
set_bare (m ∷ ms) zero (suc v) bare = bare
set_bare (m ∷ ms) (suc i) zero bare = bare
set_bare (m ∷ ms) (suc i) (suc v) bare = set_bare ms i v bare

now_bare : (ms : List Bool) (v : ℕ) → v < length ms → get_or (set ms v false) v true ≡ false
now_bare [] v h = absurd (omega arith)
now_bare (m ∷ ms) zero h = refl
now_bare (m ∷ ms) (suc v) h = now_bare ms v (omega arith)

stays_bare : (o : Option ℕ) (ms : List Bool) (v : ℕ) → IsBare v ms → IsBare v (marked false o ms)
stays_bare None ms v bare = bare
stays_bare (Some i) ms v bare = record { is = set_bare ms i v bare.is }

is_bare : (o : Option ℕ) (ms : List Bool) (v : ℕ) → o ≡ Some v → v < length ms
    → IsBare v (marked false o ms)
is_bare None ms v is h = cc
is_bare (Some i) ms v is h =
    let same : i ≡ v = cc in
    subst (λ (k : ℕ). IsBare v (marked false (Some k) ms)) (sym same)
    record { is = now_bare ms v h }

as_long : (b : Bool) (o : Option ℕ) (ms : List Bool) → length (marked b o ms) ≡ length ms
as_long b None ms = refl
as_long b (Some i) ms = length-set ms i b

-- an accessor names this view
pub data Names (d : Data) (v : ℕ) : Type 0 where
  Base : size_at (codes "bufferView") d ≡ Some v → Names d v
  Indices : sparse_view (codes "indices") d ≡ Some v → Names d v
  Values : sparse_view (codes "values") d ≡ Some v → Names d v

module _ (d : Data) (v : ℕ) (ms : List Bool) where
  abbrev one : List Bool
  one = marked false (size_at (codes "bufferView") d) ms

  abbrev two : List Bool
  two = marked false (sparse_view (codes "indices") d) one

  one_long : length one ≡ length ms
  one_long = as_long false (size_at (codes "bufferView") d) ms

  two_long : length two ≡ length ms
  two_long = as_long false (sparse_view (codes "indices") d) one ∙ one_long

  three_long : length (marked_accessor d ms) ≡ length ms
  three_long = as_long false (sparse_view (codes "values") d) two ∙ two_long

  after_one : IsBare v one → IsBare v (marked_accessor d ms)
  after_one bare =
      stays_bare (sparse_view (codes "values") d) two v
      (stays_bare (sparse_view (codes "indices") d) one v bare)

  still_bare : IsBare v ms → IsBare v (marked_accessor d ms)
  still_bare bare = after_one (stays_bare (size_at (codes "bufferView") d) ms v bare)

  named_bare : Names d v → v < length ms → IsBare v (marked_accessor d ms)
  named_bare (Base is) h = after_one (is_bare (size_at (codes "bufferView") d) ms v is h)
  named_bare (Indices is) h =
      stays_bare (sparse_view (codes "values") d) two v
      (is_bare (sparse_view (codes "indices") d) one v is
      (subst (λ (n : ℕ). v < n) (sym one_long) h))
  named_bare (Values is) h =
      is_bare (sparse_view (codes "values") d) two v is
      (subst (λ (n : ℕ). v < n) (sym two_long) h)

all_bare : (ds : Items) (ms : List Bool) (v : ℕ) → IsBare v ms
    → IsBare v (folded marked_accessor ds ms)
all_bare no_items ms v bare = bare
all_bare (item d ds) ms v bare = all_bare ds (marked_accessor d ms) v (still_bare d v ms bare)

some_bare : (v : ℕ) (ds : Items) (ms : List Bool) (j : ℕ) (e : Data) → get_item j ds ≡ Some e
    → Names e v → v < length ms → IsBare v (folded marked_accessor ds ms)
some_bare v no_items ms j e there named h = cc
some_bare v (item d ds) ms zero e there named h =
    let same : d ≡ e = cc in
    subst (λ d. IsBare v (folded marked_accessor ds (marked_accessor d ms))) (sym same)
    (all_bare ds (marked_accessor e ms) v (named_bare e v ms named h))
some_bare v (item d ds) ms (suc j) e there named h =
    some_bare v ds (marked_accessor d ms) j e there named
    (subst (λ (n : ℕ). v < n) (sym (three_long d v ms)) h)

images_long : (ds : Items) (ms : List Bool) → length (folded marked_image ds ms) ≡ length ms
images_long no_items ms = refl
images_long (item d ds) ms =
    images_long ds (marked_image d ms) ∙ as_long true (size_at (codes "bufferView") d) ms

-- ---- the end of the list

other_default : (ms : List Bool) (n : ℕ) → get_or ms n false ≡ true → get_or ms n true ≡ true
other_default [] n is = cc
other_default (m ∷ ms) zero is = is
other_default (m ∷ ms) (suc n) is = other_default ms n is

before_if : (b : Bool) (n v : ℕ) (ms : List Bool) → get_or ms n false ≡ b → IsBare v ms
    → v < suc n → (v < n → v < before_marked n ms)
    → v < (if b then before_marked n ms else suc n)
before_if true n v ms is bare h later =
    let apart : v ≡ n → ⊥ =
    λ same. true≢false (sym (other_default ms n is)
    ∙ sym (ap (λ (k : ℕ). get_or ms k true) same) ∙ bare.is) in
    later (grind arith)
before_if false n v ms is bare h later = h

stays_before : (n v : ℕ) (ms : List Bool) → IsBare v ms → v < n → v < before_marked n ms
stays_before zero v ms bare h = absurd (omega arith)
stays_before (suc n) v ms bare h =
    before_if (get_or ms n false) n v ms refl bare h (λ below. stays_before n v ms bare below)

module _ (d e : Data) (j v : ℕ) (there : get_item j (items_at (codes "accessors") d) ≡ Some e)
    (named : Names e v) (h : v < count_at (codes "bufferViews") d) where
  abbrev count : ℕ
  count = count_at (codes "bufferViews") d

  stays_if : (b : Bool) → v < (if b then before_marked count (marks d) else count)
  stays_if true =
      let bare : List Bool = replicate count false in
      let images = items_at (codes "images") d in
      let long : length (folded marked_image images bare) ≡ count =
      images_long images bare ∙ length-replicate count false in
      stays_before count v (marks d)
      (some_bare v (items_at (codes "accessors") d) (folded marked_image images bare) j e there
      named (subst (λ (n : ℕ). v < n) (sym long) h)) h
  stays_if false = h

  -- a view that an accessor names, where it is there, is among those that stay
  pub stays : v < staying d
  stays = stays_if (is_plain d)
