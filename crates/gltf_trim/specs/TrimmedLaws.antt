-- Laws of the members of a document with fewer views and shorter buffers, and of what may go.
use Rattle.std.proofs.Common.{◌≡◌, ℕ, zero, suc, ◌+◌, ◌<◌, ◌≤◌, List, Option, Some, None, Bool}
use Rattle.std.proofs.Common.{true, false, bytes_eq, refl, ap, ◌∙◌, codes, max, arith, option_map}
use Rattle.std.proofs.Common.{if◌then◌else◌, ◌==◌, ⊎_elim}
use Rattle.std.proofs.lemmas.Bool.{cases_eq}
use Rattle.std.specs.Prelude.{IsSome}
use Rattle.serde_json.specs.Data.{Data, null, boolean, number, string, array, object, Items}
use Rattle.serde_json.specs.Data.{no_items, item, Members, no_members, member, depth}
use Rattle.serde_json.specs.Data.{items_depth, members_depth}
use Rattle.serde_json.specs.Find.{get, as_object}
use Rattle.gltf_edit.specs.Bundled.{with_some}
use Rattle.gltf_edit.specs.BundledLaws.{differ, get_with, get_with_some_other, object_with_some}
use Rattle.gltf_edit.specs.DepthLaws.{with_shallow, with_leaf, get_depth}
use Rattle.gltf_edit.specs.Embedded.{without, without_member}
use Rattle.gltf_edit.specs.EmbeddedLaws.{get_without, get_without_other}
use Rattle.gltf_trim.specs.Lengths.{take_items, holds_from}
use Rattle.gltf_trim.specs.Trimmed.{first_of, with_buffers, short, first, rest}
use Rattle.gltf_trim.specs.Trimmed.{each_short, all_short, trimmed_to}

-- ---- members

object_without : (k : List ℕ) (d : Data) → IsSome (as_object d)
    → IsSome (as_object (without_member k d))
object_without k null is = is
object_without k (boolean b) is = is
object_without k (number n) is = is
object_without k (string s) is = is
object_without k (array ds) is = is
object_without k (object ms) is = refl

-- the first views, where there is a list of them and some are left
abbrev pub views_left : ℕ → Option Data → Option Data
views_left n o = if n == 0 then None else option_map (first_of n) o

changed_at : (f : Data → Data) (k : List ℕ) (base : Data) (o : Option Data)
    → IsSome (as_object base) → get k base ≡ o
    → get k (with_some k (option_map f o) base) ≡ option_map f o
changed_at f k base None is same = same
changed_at f k base (Some e) is same = get_with k (f e) base is

module _ (n : ℕ) (ls : List (Option ℕ)) (d : Data) where
  abbrev new_buffers : Option Data
  new_buffers = option_map (all_short ls) (get (codes "buffers") d)

  abbrev base : Data
  base = with_buffers ls d d

  base_object : IsSome (as_object d) → IsSome (as_object base)
  base_object is = object_with_some (codes "buffers") new_buffers d is

  abbrev views_if : Bool → Data
  views_if none =
      if none then without_member (codes "bufferViews") base
      else with_some (codes "bufferViews") (option_map (first_of n) (get (codes "bufferViews") d))
      base

  other_if : (none : Bool) (q : List ℕ) → (q ≡ codes "bufferViews" → ⊥)
      → get q (views_if none) ≡ get q base
  other_if true q apart = get_without_other q (codes "bufferViews") base apart
  other_if false q apart =
      get_with_some_other q (codes "bufferViews")
      (option_map (first_of n) (get (codes "bufferViews") d)) base apart

  object_if : (none : Bool) → IsSome (as_object d) → IsSome (as_object (views_if none))
  object_if true is =
      object_without (codes "bufferViews") base (base_object is)
  object_if false is =
      object_with_some (codes "bufferViews")
      (option_map (first_of n) (get (codes "bufferViews") d)) base (base_object is)

  base_other : (q : List ℕ) → (q ≡ codes "buffers" → ⊥) → get q base ≡ get q d
  base_other q apart =
      get_with_some_other q (codes "buffers") new_buffers d apart

  left_if : (none : Bool) → IsSome (as_object d)
      → get (codes "bufferViews") (views_if none)
      ≡ (if none then None else option_map (first_of n) (get (codes "bufferViews") d))
  left_if true is = get_without (codes "bufferViews") base
  left_if false is =
      changed_at (first_of n) (codes "bufferViews") base (get (codes "bufferViews") d)
      (base_object is)
      (base_other (codes "bufferViews") (differ _ _ refl))

  pub trimmed_object : IsSome (as_object d) → IsSome (as_object (trimmed_to n ls d))
  trimmed_object is = object_if (n == 0) is

  pub trimmed_other : (q : List ℕ) → (q ≡ codes "buffers" → ⊥) → (q ≡ codes "bufferViews" → ⊥)
      → get q (trimmed_to n ls d) ≡ get q d
  trimmed_other q buffers views = other_if (n == 0) q views ∙ base_other q buffers

  pub trimmed_views : IsSome (as_object d)
      → get (codes "bufferViews") (trimmed_to n ls d)
      ≡ views_left n (get (codes "bufferViews") d)
  trimmed_views is = left_if (n == 0) is

  pub trimmed_buffers : IsSome (as_object d)
      → get (codes "buffers") (trimmed_to n ls d)
      ≡ option_map (all_short ls) (get (codes "buffers") d)
  trimmed_buffers is =
      other_if (n == 0) (codes "buffers") (differ _ _ refl)
      ∙ changed_at (all_short ls) (codes "buffers") d (get (codes "buffers") d) is refl

-- ---- how deep it nests

without_depth_at : (b : Bool) (l : List ℕ) (d : Data) (ms ns : Members)
    → members_depth ns ≤ members_depth ms
    → members_depth (if b then ns else member l d ns) ≤ max (depth d) (members_depth ms)
without_depth_at true l d ms ns later = omega arith
without_depth_at false l d ms ns later = omega arith

without_members_depth : (k : List ℕ) (ms : Members)
    → members_depth (without k ms) ≤ members_depth ms
without_members_depth k no_members = omega arith
without_members_depth k (member l d ms) =
    without_depth_at (bytes_eq k l) l d ms (without k ms) (without_members_depth k ms)

without_depth : (k : List ℕ) (d : Data) → depth (without_member k d) ≤ depth d
without_depth k null = omega arith
without_depth k (boolean b) = omega arith
without_depth k (number n) = omega arith
without_depth k (string s) = omega arith
without_depth k (array ds) = omega arith
without_depth k (object ms) = let members = without_members_depth k ms in omega arith

taken_depth : (n : ℕ) (ds : Items) → items_depth (take_items n ds) ≤ items_depth ds
taken_depth zero ds = omega arith
taken_depth (suc n) no_items = omega arith
taken_depth (suc n) (item d ds) = let later = taken_depth n ds in omega (arith, later)

first_depth : (n : ℕ) (d : Data) → depth (first_of n d) ≤ depth d
first_depth n null = omega arith
first_depth n (boolean b) = omega arith
first_depth n (number x) = omega arith
first_depth n (string s) = omega arith
first_depth n (array ds) = let fewer = taken_depth n ds in omega (arith, fewer)
first_depth n (object ms) = omega arith

short_depth : (l : Option ℕ) (d : Data) → depth (short l d) ≤ depth d
short_depth None d = omega arith
short_depth (Some n) d = with_leaf (codes "byteLength") n d

each_depth : (ls : List (Option ℕ)) (ds : Items) → items_depth (each_short ls ds) ≤ items_depth ds
each_depth ls no_items = omega arith
each_depth ls (item d ds) =
    let here = short_depth (first ls) d in
    let later = each_depth (rest ls) ds in
    omega (arith, here, later)

all_depth : (ls : List (Option ℕ)) (d : Data) → depth (all_short ls d) ≤ depth d
all_depth ls null = omega arith
all_depth ls (boolean b) = omega arith
all_depth ls (number x) = omega arith
all_depth ls (string s) = omega arith
all_depth ls (array ds) = let all = each_depth ls ds in omega (arith, all)
all_depth ls (object ms) = omega arith

-- f of a member of d in its place, in what nests no deeper than n
list_depth : (f : Data → Data) → ((e : Data) → depth (f e) ≤ depth e) → (k : List ℕ)
    (d base : Data) (n : ℕ) (l : Option Data) → get k d ≡ l → depth d ≤ n → depth base ≤ n
    → depth (with_some k (option_map f l) base) ≤ n
list_depth f fewer k d base n None is nests base_nests = base_nests
list_depth f fewer k d base n (Some e) is nests base_nests =
    let within = get_depth k e d is in
    let no_more = fewer e in
    with_shallow k (f e) base n base_nests (omega (arith, within, no_more))

-- an edited document nests no deeper than before
pub trimmed_depth : (n : ℕ) (ls : List (Option ℕ)) (d : Data) (k : ℕ) → depth d ≤ k
    → depth (trimmed_to n ls d) ≤ k
trimmed_depth n ls d k nests = depth_if (n == 0) where
  base_nests : depth (with_buffers ls d d) ≤ k
  base_nests =
      list_depth (all_short ls) (all_depth ls) (codes "buffers") d d k (get (codes "buffers") d)
      refl nests nests

  depth_if : (none : Bool) → depth (views_if n ls d none) ≤ k
  depth_if true =
      let bare = without_depth (codes "bufferViews") (with_buffers ls d d) in
      let whole = base_nests in omega (arith, bare, whole)
  depth_if false =
      list_depth (first_of n) (first_depth n) (codes "bufferViews") d (with_buffers ls d d) k
      (get (codes "bufferViews") d) refl nests base_nests

-- ---- places

-- what holds from place e on holds at each place there
pub holds_at : (f : ℕ → Bool) (e n i : ℕ) → holds_from f e n ≡ true → e ≤ i → i < e + n
    → f i ≡ true
holds_at f e zero i all from to = absurd (omega (arith, from, to))
holds_at f e (suc n) i all from to =
    at_if (f (e + n)) refl all (λ before. holds_at f e n i before from) where
      at_if : (b : Bool) → f (e + n) ≡ b → (if b then holds_from f e n else false) ≡ true
          → (holds_from f e n ≡ true → i < e + n → f i ≡ true) → f i ≡ true
      at_if true is all earlier =
          ⊎_elim (λ same. ap f same ∙ is)
          (λ apart. earlier all (let less : i < e + n = grind arith in less))
          (cases_eq i (e + n))
      at_if false is all earlier = cc
