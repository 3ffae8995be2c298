-- Laws of the members of a document whose buffers and images are in files of their own.
use Rattle.std.proofs.Common.{◌≡◌, ℕ, ◌+◌, ◌≤◌, ◌<◌, List, [], ◌∷◌, Option, Some, None, Bool, true}
use Rattle.std.proofs.Common.{false, bytes_eq, refl, sym, ap, ◌∙◌, codes, max, arith, option_map}
use Rattle.std.proofs.Common.{if◌then◌else◌}
use Rattle.std.specs.Prelude.{IsSome}
use Rattle.serde_json.specs.Data.{Data, null, boolean, number, string, array, object, Items}
use Rattle.serde_json.specs.Data.{no_items, item, Members, no_members, member, depth}
use Rattle.serde_json.specs.Data.{items_depth, members_depth}
use Rattle.serde_json.specs.Find.{get, as_object}
use Rattle.gltf_edit.specs.Bundled.{with_member, with_some}
use Rattle.gltf_edit.specs.BundledLaws.{differ, get_with, get_with_other, get_with_some_other}
use Rattle.gltf_edit.specs.BundledLaws.{object_with_some}
use Rattle.gltf_edit.specs.DepthLaws.{with_shallow, get_depth}
use Rattle.gltf_edit.specs.Embedded.{without, without_member}
use Rattle.gltf_edit.specs.EmbeddedLaws.{get_without, get_without_other}
use Rattle.gltf_detach.specs.Detached.{with_uri, elsewhere, first, rest, each_elsewhere}
use Rattle.gltf_detach.specs.Detached.{all_elsewhere, list_elsewhere, detached}
use Rattle.gltf_detach.specs.declared.owner.Owner.{Owner}
use Rattle.gltf_detach.specs.declared.owner.Owner.TheVariants as owner

-- ---- one of them

object_without : (k : List ℕ) (d : Data) → IsSome (as_object d)
    → IsSome (as_object (without_member k d))
object_without k null is = is
object_without k (boolean b) is = is
object_without k (number n) is = is
object_without k (string s) is = is
object_without k (array ds) is = is
object_without k (object ms) is = refl

pub object_back : (u : List ℕ) (d : Data) → IsSome (as_object (with_uri u d))
    → IsSome (as_object d)
object_back u null is = is
object_back u (boolean b) is = is
object_back u (number n) is = is
object_back u (string s) is = is
object_back u (array ds) is = is
object_back u (object ms) is = refl

pub buffer_uri : (u : List ℕ) (d : Data)
    → IsSome (as_object (elsewhere owner.Buffer (Some u) d))
    → get (codes "uri") (elsewhere owner.Buffer (Some u) d) ≡ Some (string u)
buffer_uri u d is = get_with (codes "uri") (string u) d (object_back u d is)

pub image_uri : (u : List ℕ) (d : Data)
    → IsSome (as_object (elsewhere owner.Image (Some u) d))
    → get (codes "uri") (elsewhere owner.Image (Some u) d) ≡ Some (string u)
image_uri u d is =
    get_with (codes "uri") (string u) (without_member (codes "bufferView") d)
    (object_back u (without_member (codes "bufferView") d) is)

pub no_view : (u : List ℕ) (d : Data)
    → get (codes "bufferView") (elsewhere owner.Image (Some u) d) ≡ None
no_view u d =
    get_with_other (codes "bufferView") (codes "uri") (string u)
    (without_member (codes "bufferView") d) (differ _ _ refl)
    ∙ get_without (codes "bufferView") d

-- ---- documents

changed_at : (f : Data → Data) (k : List ℕ) (base : Data) (o : Option Data)
    → IsSome (as_object base) → get k base ≡ o
    → get k (with_some k (option_map f o) base) ≡ option_map f o
changed_at f k base None is same = same
changed_at f k base (Some e) is same = get_with k (f e) base is

module _ (us vs : List (Option (List ℕ))) (d : Data) where
  abbrev images_in : Data
  images_in = with_some (codes "images") (list_elsewhere owner.Image vs d) d

  pub detached_other : (q : List ℕ) → (q ≡ codes "buffers" → ⊥) → (q ≡ codes "images" → ⊥)
      → get q (detached us vs d) ≡ get q d
  detached_other q buffers images =
      get_with_some_other q (codes "buffers") (list_elsewhere owner.Buffer us d) images_in buffers
      ∙ get_with_some_other q (codes "images") (list_elsewhere owner.Image vs d) d images

  pub detached_buffers : IsSome (as_object d)
      → get (codes "buffers") (detached us vs d)
      ≡ option_map (all_elsewhere owner.Buffer us) (get (codes "buffers") d)
  detached_buffers is =
      changed_at (all_elsewhere owner.Buffer us) (codes "buffers") images_in
      (get (codes "buffers") d)
      (object_with_some (codes "images") (list_elsewhere owner.Image vs d) d is)
      (get_with_some_other (codes "buffers") (codes "images") (list_elsewhere owner.Image vs d) d
      (differ _ _ refl))

  pub detached_images : IsSome (as_object d)
      → get (codes "images") (detached us vs d)
      ≡ option_map (all_elsewhere owner.Image vs) (get (codes "images") d)
  detached_images is =
      get_with_some_other (codes "images") (codes "buffers") (list_elsewhere owner.Buffer us d)
      images_in (differ _ _ refl)
      ∙ changed_at (all_elsewhere owner.Image vs) (codes "images") d
      (get (codes "images") d) is refl

-- ---- how deep it nests

without_depth_at : (b : Bool) (l : List ℕ) (d : Data) (ms ns : Members)
    → members_depth ns ≤ members_depth ms
    → members_depth (if b then ns else member l d ns) ≤ max (depth d) (members_depth ms)
without_depth_at true l d ms ns later = omega arith
without_depth_at false l d ms ns later = omega arith

without_members_depth : (k : List ℕ) (ms : Members)
    → members_depth (without k ms) ≤ members_depth ms
without_members_depth k no_members = omega arith
without_members_depth k (member l d ms) =
    without_depth_at (bytes_eq k l) l d ms (without k ms) (without_members_depth k ms)

without_depth : (k : List ℕ) (d : Data) → depth (without_member k d) ≤ depth d
without_depth k null = omega arith
without_depth k (boolean b) = omega arith
without_depth k (number n) = omega arith
without_depth k (string s) = omega arith
without_depth k (array ds) = omega arith
without_depth k (object ms) = let members = without_members_depth k ms in omega arith

uri_depth : (u : List ℕ) (d : Data) → depth (with_uri u d) ≤ depth d
uri_depth u null = omega arith
uri_depth u (boolean b) = omega arith
uri_depth u (number n) = omega arith
uri_depth u (string t) = omega arith
uri_depth u (array ds) = omega arith
uri_depth u (object ms) =
    with_shallow (codes "uri") (string u) (object ms) (depth (object ms)) (omega arith)
    (omega arith)

elsewhere_depth : (o : Owner) (u : Option (List ℕ)) (d : Data) → depth (elsewhere o u d) ≤ depth d
elsewhere_depth owner.Buffer None d = omega arith
elsewhere_depth owner.Image None d = omega arith
elsewhere_depth owner.Buffer (Some u) d = uri_depth u d
elsewhere_depth owner.Image (Some u) d =
    let bare = without_member (codes "bufferView") d in
    let no_view = without_depth (codes "bufferView") d in
    let with_it = uri_depth u bare in
    omega (arith, no_view, with_it)

each_depth : (o : Owner) (us : List (Option (List ℕ))) (ds : Items)
    → items_depth (each_elsewhere o us ds) ≤ items_depth ds
each_depth o us no_items = omega arith
each_depth o us (item d ds) =
    let here = elsewhere_depth o (first us) d in
    let later = each_depth o (rest us) ds in
    omega (arith, here, later)

all_depth : (o : Owner) (us : List (Option (List ℕ))) (d : Data)
    → depth (all_elsewhere o us d) ≤ depth d
all_depth o us null = omega arith
all_depth o us (boolean b) = omega arith
all_depth o us (number x) = omega arith
all_depth o us (string s) = omega arith
all_depth o us (array ds) = let all = each_depth o us ds in omega (arith, all)
all_depth o us (object ms) = omega arith

-- a list of d in its place, in what nests no deeper than n
list_depth : (o : Owner) (us : List (Option (List ℕ))) (k : List ℕ) (d base : Data) (n : ℕ)
    (l : Option Data) → get k d ≡ l → depth d ≤ n → depth base ≤ n
    → depth (with_some k (option_map (all_elsewhere o us) l) base) ≤ n
list_depth o us k d base n None is short base_short = base_short
list_depth o us k d base n (Some e) is short base_short =
    let within = get_depth k e d is in
    let no_more = all_depth o us e in
    with_shallow k (all_elsewhere o us e) base n base_short (omega (arith, within, no_more))

-- an edited document nests no deeper than before
pub detached_depth : (us vs : List (Option (List ℕ))) (d : Data) (n : ℕ) → depth d ≤ n
    → depth (detached us vs d) ≤ n
detached_depth us vs d n short =
    list_depth owner.Buffer us (codes "buffers") d
    (with_some (codes "images") (list_elsewhere owner.Image vs d) d) n
    (get (codes "buffers") d) refl
    short
    (list_depth owner.Image vs (codes "images") d d n (get (codes "images") d) refl short short)
