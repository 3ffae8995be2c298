-- The files of buffers and images, one after the other.
use Rattle.std.proofs.Common.{◌≡◌, ℕ, zero, suc, ◌+◌, ◌<◌, List, [], ◌∷◌, ◌++◌, length, take}
use Rattle.std.proofs.Common.{refl, sym, ap, subst, ◌∙◌, arith, add-one, get_or, Option}
use Rattle.std.proofs.Common.{string_bytes, drop, None, Some, Vec, Global, append_assoc, ◌≢◌, codes}
use Rattle.std.proofs.Math.Seq.{take-suc}
use Rattle.std.proofs.lemmas.List.{map-append, append-nil}
use Rattle.serde_json.specs.Data.{Data, Items, no_items, item}
use Rattle.serde_json.specs.Events.{items_len}
use Rattle.serde_json.specs.View.{view, items_view}
use Rattle.serde_json.specs.declared.value.Value.{Value}
use Rattle.gltf_names.specs.Named.{Named}
use Rattle.gltf_buffers.specs.Names.{Names}
use Rattle.gltf_buffers.specs.Shown.{bytes_of_each}
use Rattle.gltf_buffers.specs.declared.data.Data.{Data as Buffer}
use Rattle.gltf_detach.specs.Naming.{buffer_name}
use Rattle.gltf_detach.specs.declared.part.Part.{Part}
use Rattle.gltf_trim.specs.Tails.{bytes_of}
use Rattle.gltf_trim.specs.Trimmed.{first}
use Rattle.gltf_trimmed.specs.Laws.{cut, cut_all}
use Rattle.gltf_bundle.specs.Images.{front}
use Rattle.gltf_bundle.specs.declared.options.Keep.{Keep}
use Rattle.gltf_bundle.specs.declared.options.Keep.TheVariants.{Nothing, Missing, Every}
use Rattle.gltf_edit.specs.Embedded.{items_at}
use Rattle.gltf_split.specs.Images.{AreParts, AreImages, MayBePart, Stays, IsBare}
use Rattle.gltf_split.specs.Images.{FailedAtMissing}
use Rattle.gltf_split.specs.Splits.{AreNamed, bytes_of_parts}

-- ---- buffers

named_at : (stem : List ℕ) (count i : ℕ) (ps : List Part) (p : Part)
    → AreNamed stem count i ps → (n : ℕ) → n ≡ i + length ps
    → string_bytes p.name ≡ buffer_name stem count n → AreNamed stem count i (ps ++ p ∷ [])
named_at stem count i [] p named n is name =
    let same : n ≡ i = is ∙ omega arith in
    (name ∙ ap (buffer_name stem count) same, tt)
named_at stem count i (q ∷ ps) p named n is name =
    let one : i + suc (length ps) ≡ i + 1 + length ps = omega arith in
    (named.0, named_at stem count (i + 1) ps p named.1 n (is ∙ one) name)

pub named_more : (stem : List ℕ) (count : ℕ) (ps : List Part) (p : Part)
    → AreNamed stem count 0 ps → string_bytes p.name ≡ buffer_name stem count (length ps)
    → AreNamed stem count 0 (ps ++ p ∷ [])
named_more stem count ps p named name =
    named_at stem count 0 ps p named (length ps) (omega arith) name

pub bytes_more : (ps : List Part) (p : Part) (bs : List Buffer) (b : Buffer)
    → bytes_of_parts ps ≡ bytes_of_each bs → p.bytes.items ≡ b.0.items
    → bytes_of_parts (ps ++ p ∷ []) ≡ bytes_of_each (bs ++ b ∷ [])
bytes_more ps p bs b far same =
    map-append (λ (p : Part). p.bytes.items) ps (p ∷ [])
    ∙ ap (λ (xs : List (List ℕ)). xs ++ p.bytes.items ∷ []) far
    ∙ ap (λ (x : List ℕ). bytes_of_each bs ++ x ∷ []) same
    ∙ sym (map-append (λ (b : Buffer). b.0.items) bs (b ∷ []))

length_of_parts : (ps : List Part) → length (bytes_of_parts ps) ≡ length ps
length_of_parts [] = refl
length_of_parts (p ∷ ps) = ap suc (length_of_parts ps)

length_of_each : (bs : List Buffer) → length (bytes_of_each bs) ≡ length bs
length_of_each [] = refl
length_of_each (b ∷ bs) = ap suc (length_of_each bs)

-- as many files as buffers
pub as_many : (ps : List Part) (bs : List Buffer) → bytes_of_parts ps ≡ bytes_of_each bs
    → length bs ≡ length ps
as_many ps bs same =
    sym (length_of_each bs) ∙ sym (ap (λ (xs : List (List ℕ)). length xs) same)
    ∙ length_of_parts ps

-- ---- what is left of them

nothing : (n : ℕ) → first (drop n []) ≡ None
nothing zero = refl
nothing (suc n) = refl

cut_last : (ls : List (Option ℕ)) (xs : List (List ℕ)) (x : List ℕ)
    → cut_all ls (xs ++ x ∷ []) ≡ cut_all ls xs ++ cut (first (drop (length xs) ls)) x ∷ []
cut_last ls [] x = refl
cut_last [] (y ∷ xs) x =
    ap (λ (zs : List (List ℕ)). y ∷ zs)
    (cut_last [] xs x
    ∙ ap (λ (o : Option ℕ). cut_all [] xs ++ cut o x ∷ [])
    (nothing (length xs) ∙ sym (nothing (suc (length xs)))))
cut_last (l ∷ ls) (y ∷ xs) x = ap (λ (zs : List (List ℕ)). cut l y ∷ zs) (cut_last ls xs x)

length_of_bytes : (vs : List (Vec ℕ Global)) → length (bytes_of vs) ≡ length vs
length_of_bytes [] = refl
length_of_bytes (v ∷ vs) = ap suc (length_of_bytes vs)

pub taken_more : (done : List (Vec ℕ Global)) (from : List Buffer) (b : Buffer)
    → bytes_of done ≡ bytes_of_each from
    → bytes_of (done ++ b.0 ∷ []) ≡ bytes_of_each (from ++ b ∷ [])
taken_more done from b far =
    map-append (λ (v : Vec ℕ Global). v.items) done (b.0 ∷ [])
    ∙ ap (λ (xs : List (List ℕ)). xs ++ b.0.items ∷ []) far
    ∙ sym (map-append (λ (b : Buffer). b.0.items) from (b ∷ []))

pub left_more : (ls : List (Option ℕ)) (done : List Buffer) (from : List (Vec ℕ Global))
    (b : Vec ℕ Global) (c : Buffer) → bytes_of_each done ≡ cut_all ls (bytes_of from)
    → c.0.items ≡ cut (first (drop (length from) ls)) b.items
    → bytes_of_each (done ++ c ∷ []) ≡ cut_all ls (bytes_of (from ++ b ∷ []))
left_more ls done from b c far here =
    let next = λ (n : ℕ). cut (first (drop n ls)) b.items in
    map-append (λ (b : Buffer). b.0.items) done (c ∷ [])
    ∙ ap (λ (xs : List (List ℕ)). xs ++ c.0.items ∷ []) far
    ∙ ap (λ (x : List ℕ). cut_all ls (bytes_of from) ++ x ∷ [])
    (here ∙ ap next (sym (length_of_bytes from)))
    ∙ sym (cut_last ls (bytes_of from) b.items)
    ∙ ap (cut_all ls) (sym (map-append (λ (v : Vec ℕ Global). v.items) from (b ∷ [])))

-- ---- images

length_of_take : (n : ℕ) (vs : List Value) → n < length vs → length (take n vs) ≡ n
length_of_take zero vs h = refl
length_of_take (suc n) [] h = absurd (omega arith)
length_of_take (suc n) (v ∷ vs) h = ap suc (length_of_take n vs (omega arith))

module _ (keep : Keep) (names : Names) (stem : List ℕ) (buffers : List (List ℕ))
    (document : Data) where
  part_at : (i : ℕ) (vs : List Value) (ps : List (Option Part)) (lost : List Named) (v : Value)
      (p : Option Part) (first : List Named)
      → AreParts keep names stem buffers document i (items_view vs) ps lost → (n : ℕ)
      → n ≡ i + length vs → MayBePart keep names stem buffers document n (view v) p first
      → AreParts keep names stem buffers document i (items_view (vs ++ v ∷ [])) (ps ++ p ∷ [])
      (first ++ lost)
  part_at i [] [] lost v p first far n is here =
      let same : n ≡ i = is ∙ omega arith in (
        first,
        [],
        subst (λ (k : ℕ). MayBePart keep names stem buffers document k (view v) p first) same here,
        refl,
        ap (λ (xs : List Named). first ++ xs) far ∙ append-nil first,
      )
  part_at i [] (q ∷ ps) lost v p first far n is here = absurd far
  part_at i (w ∷ vs) [] lost v p first far n is here = absurd far
  part_at i (w ∷ vs) (q ∷ ps) lost v p first (was, behind, head, rest, lost_is) n is here =
      let one : i + suc (length vs) ≡ i + 1 + length vs = omega arith in (
        was,
        first ++ behind,
        head,
        part_at (i + 1) vs ps behind v p first rest n (is ∙ one) here,
        ap (λ (xs : List Named). first ++ xs) lost_is ∙ sym (append_assoc first behind was),
      )

  -- one more
  pub one_more : (vs : List Value) (n : ℕ) (ps : List (Option Part)) (lost : List Named) (v : Value)
      (p : Option Part) (first : List Named) → n < length vs → v ≡ get_or vs n v
      → AreParts keep names stem buffers document 0 (items_view (take n vs)) ps lost
      → MayBePart keep names stem buffers document n (view v) p first
      → AreParts keep names stem buffers document 0 (items_view (take (n + 1) vs)) (ps ++ p ∷ [])
      (first ++ lost)
  one_more vs n ps lost v p first h is far here =
      let more : take (n + 1) vs ≡ take n vs ++ v ∷ [] =
      ap (λ (n : ℕ). take n vs) (add-one n) ∙ take-suc vs n v h
      ∙ ap (λ (w : Value). take n vs ++ w ∷ []) (sym is) in
      let taken = length_of_take n vs h in
      let long : n ≡ 0 + length (take n vs) = omega arith in
      subst (λ (ws : List Value).
      AreParts keep names stem buffers document 0 (items_view ws) (ps ++ p ∷ []) (first ++ lost))
      (sym more)
      (part_at 0 (take n vs) ps lost v p first far n long here)

-- where an image that stays has no URI, the source does not fail
no_loss : (keep : Keep) (names : Names)
    → ((d : Data) (l : List Named) → Stays keep names d l → IsBare d l) → (stem : List ℕ)
    (buffers : List (List ℕ)) (document : Data) (i : ℕ) (ds : Items) (ps : List (Option Part))
    (lost : List Named) → AreParts keep names stem buffers document i ds ps lost → lost ≡ []
no_loss keep names bare stem buffers document i no_items [] lost far = far
no_loss keep names bare stem buffers document i no_items (p ∷ ps) lost far = absurd far
no_loss keep names bare stem buffers document i (item d ds) [] lost far = absurd far
no_loss keep names bare stem buffers document i (item d ds) (None ∷ ps) lost
    (was, behind, head, rest, lost_is) =
    lost_is
    ∙ (λ k.
    no_loss keep names bare stem buffers document (i + 1) ds ps behind rest k
    ++ (bare d was head).fine k)
no_loss keep names bare stem buffers document i (item d ds) (Some p ∷ ps) lost
    (was, behind, head, rest, lost_is) =
    lost_is
    ∙ (λ k. no_loss keep names bare stem buffers document (i + 1) ds ps behind rest k ++ head.1 k)

pub none_lost : (keep : Keep) (names : Names) (stem : List ℕ) (buffers : List (List ℕ))
    (document : Data) (i : ℕ) (ds : Items) (ps : List (Option Part)) (lost : List Named)
    → AreParts keep names stem buffers document i ds ps lost → keep ≢ Missing → lost ≡ []
none_lost Nothing names stem buffers document i ds ps lost far some =
    no_loss Nothing names (λ d l bare. bare) stem buffers document i ds ps lost far
none_lost Every names stem buffers document i ds ps lost far some =
    no_loss Every names (λ d l bare. bare) stem buffers document i ds ps lost far
none_lost Missing names stem buffers document i ds ps lost far some = absurd (some refl)

all_of : (ds : Items) → front (items_len ds) ds ≡ ds
all_of no_items = refl
all_of (item d ds) = ap (item d) (all_of ds)

front_of : (vs : List Value) (i : ℕ) → items_view (take i vs) ≡ front i (items_view vs)
front_of [] zero = refl
front_of [] (suc i) = refl
front_of (v ∷ vs) zero = refl
front_of (v ∷ vs) (suc i) = ap (item (view v)) (front_of vs i)

no_missing : Nothing ≢ Missing
no_missing same = cc

no_missing_of_all : Every ≢ Missing
no_missing_of_all same = cc

-- so it failed at no name but those of images that are missing and stay
pub failed_behind : (keep : Keep) (names : Names) (stem : List ℕ) (buffers : List (List ℕ))
    (document : Data) (ps : List (Option Part)) (lost old new : List Named)
    → AreImages keep names stem buffers document ps lost → new ≡ lost ++ old
    → FailedAtMissing keep names buffers document (items_at (codes "images") document) old new
failed_behind Every names stem buffers document ps lost old new are after =
    after ∙ ap (λ (l : List Named). l ++ old) are.1
failed_behind Nothing names stem buffers document ps lost old new are after =
    after
    ∙ ap (λ (l : List Named). l ++ old)
    (none_lost Nothing names stem buffers document 0 (items_at (codes "images") document) ps lost
    are no_missing)
failed_behind Missing names stem buffers document ps lost old new are after =
    let ds = items_at (codes "images") document in
    record {
      count = items_len ds;
      stem = stem;
      parts = ps;
      lost = lost;
      before =
          subst (λ (es : Items). AreParts Missing names stem buffers document 0 es ps lost)
          (sym (all_of ds)) are;
      after = after;
    }

-- at none but those of the first that are
pub failed_at : (keep : Keep) (names : Names) (stem : List ℕ) (buffers : List (List ℕ))
    (document : Data) (vs : List Value) (i : ℕ) (ps : List (Option Part))
    (lost old new : List Named)
    → AreParts keep names stem buffers document 0 (items_view (take i vs)) ps lost
    → new ≡ lost ++ old → FailedAtMissing keep names buffers document (items_view vs) old new
failed_at Nothing names stem buffers document vs i ps lost old new far after =
    after
    ∙ ap (λ (l : List Named). l ++ old)
    (none_lost Nothing names stem buffers document 0 (items_view (take i vs)) ps lost far
    no_missing)
failed_at Every names stem buffers document vs i ps lost old new far after =
    after
    ∙ ap (λ (l : List Named). l ++ old)
    (none_lost Every names stem buffers document 0 (items_view (take i vs)) ps lost far
    no_missing_of_all)
failed_at Missing names stem buffers document vs i ps lost old new far after = record {
  count = i;
  stem = stem;
  parts = ps;
  lost = lost;
  before =
      subst (λ (es : Items). AreParts Missing names stem buffers document 0 es ps lost)
      (front_of vs i) far;
  after = after;
}

-- at none, where it was not asked for one
pub none_failed : (keep : Keep) (names : Names) (stem : List ℕ) (buffers : List (List ℕ))
    (document : Data) (vs : List Value) (old : List Named)
    → FailedAtMissing keep names buffers document (items_view vs) old old
none_failed Nothing names stem buffers document vs old = refl
none_failed Every names stem buffers document vs old = refl
none_failed Missing names stem buffers document vs old = record {
  count = 0;
  stem = stem;
  parts = [];
  lost = [];
  before = refl;
  after = refl;
}

-- all stay
pub none_of_all : (keep : Keep) (names : Names) (stem : List ℕ) (buffers : List (List ℕ))
    (document : Data) → keep ≡ Every → AreImages keep names stem buffers document [] []
none_of_all keep names stem buffers document every =
    subst (λ (k : Keep). AreImages k names stem buffers document [] []) (sym every) (refl, refl)

-- of each image that has a file or stays, so do the others
pub parts_all : (keep : Keep) (names : Names) (stem : List ℕ) (buffers : List (List ℕ))
    (document : Data) (ps : List (Option Part)) (lost : List Named) → (keep ≡ Every → ⊥)
    → AreParts keep names stem buffers document 0 (items_at (codes "images") document) ps lost
    → AreImages keep names stem buffers document ps lost
parts_all Nothing names stem buffers document ps lost some all = all
parts_all Missing names stem buffers document ps lost some all = all
parts_all Every names stem buffers document ps lost some all = absurd (some refl)

pub none_before : (keep : Keep) (names : Names) (stem : List ℕ) (buffers : List (List ℕ))
    (document : Data) (i : ℕ) (ds : Items) (ps : List (Option Part)) (lost : List Named)
    → keep ≡ Nothing → AreParts keep names stem buffers document i ds ps lost → lost ≡ []
none_before keep names stem buffers document i ds ps lost nothing far =
    none_lost keep names stem buffers document i ds ps lost far
    (subst (λ (k : Keep). k ≢ Missing) (sym nothing) no_missing)
