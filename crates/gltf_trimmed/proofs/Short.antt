-- The records of a document with fewer views and shorter buffers.
use Rattle.std.proofs.Common.{◌≡◌, ◌≤◌, ℕ, zero, suc, List, [], ◌∷◌, length, take, Option}
use Rattle.std.proofs.Common.{Some, None, refl, sym, ap, subst, arith, codes, option_map, Vec}
use Rattle.std.proofs.Common.{Global, slice_get, Bool, true, false, ◌==◌, bytes_eq}
use Rattle.std.proofs.lemmas.List.{length-take}
use Rattle.std.specs.Prelude.{MatchOption, option_and_then, if◌then◌else◌}
use Rattle.serde_json.specs.Data.{Data, null, boolean, number, string, array, object, Items}
use Rattle.serde_json.specs.Data.{no_items, item}
use Rattle.serde_json.specs.Find.{get}
use Rattle.gltf_edit.specs.Bundled.{with_member, whole}
use Rattle.gltf_edit.specs.BundledLaws.{differ, get_with, get_with_other, object_with}
use Rattle.gltf_json.specs.Documents.{root}
use Rattle.gltf_json.specs.declared.root.Root.{Root}
use Rattle.gltf_json_geometry.specs.Buffers.{buffer, buffer_view}
use Rattle.gltf_json_geometry.specs.declared.buffer.Buffer.{Buffer}
use Rattle.gltf_json_geometry.specs.declared.buffer.View.{View}
use Rattle.gltf_json_record.specs.Items.{AllRead}
use Rattle.gltf_json_record.specs.Member.{member_at, unless_null}
use Rattle.gltf_trim.specs.Lengths.{take_items}
use Rattle.gltf_trim.specs.Trimmed.{short, each_short, all_short, first, rest, first_of, trimmed_to}
use Rattle.gltf_trim.specs.TrimmedLaws.{trimmed_object, trimmed_other, trimmed_views}
use Rattle.gltf_trim.specs.TrimmedLaws.{trimmed_buffers}
use Rattle.gltf_trimmed.proofs.Reached.{length_at}
use Rattle.gltf_trimmed.proofs.Rows.{ReadsList}

-- ---- records

abbrev pub short_buffer : Option ℕ → Buffer → Buffer
short_buffer None b = b
short_buffer (Some n) b = record b { byte_length = n }

abbrev pub short_buffers : List (Option ℕ) → List Buffer → List Buffer
short_buffers ls [] = []
short_buffers ls (b ∷ bs) = short_buffer (first ls) b ∷ short_buffers (rest ls) bs

pub as_many : (ls : List (Option ℕ)) (bs : List Buffer) → length (short_buffers ls bs) ≡ length bs
as_many ls [] = refl
as_many ls (b ∷ bs) = ap suc (as_many (rest ls) bs)

pub short_at : (ls : List (Option ℕ)) (bs : List Buffer) (i : ℕ)
    → slice_get (short_buffers ls bs) i
    ≡ option_map (short_buffer (length_at ls i)) (slice_get bs i)
short_at ls [] i = refl
short_at [] (b ∷ bs) zero = refl
short_at [] (b ∷ bs) (suc i) = short_at [] bs i
short_at (l ∷ ls) (b ∷ bs) zero = refl
short_at (l ∷ ls) (b ∷ bs) (suc i) = short_at ls bs i

-- a vector of other elements in its place, no more of them
abbrev vec_of : {X : Type 0} (v : Vec X Global) (xs : List X) → length xs ≤ length v.items
    → Vec X Global
vec_of v xs h = record {
  ptr = v.ptr;
  len = length xs;
  cap = v.cap;
  alloc = v.alloc;
  items = xs;
  ok = (refl, omega (arith, v.ok.0, v.ok.1));
  small = v.small;
}

pub few : {X : Type 0} (n : ℕ) (xs : List X) → length (take n xs) ≤ length xs
few n xs = let long = length-take n xs in omega (arith, long)

-- the first n views, and buffers of these lengths
abbrev pub short_root : ℕ → List (Option ℕ) → Root → Root
short_root n ls r = record r {
  buffers = vec_of r.buffers (short_buffers ls r.buffers.items)
      (let many = as_many ls r.buffers.items in omega (arith, many));
  buffer_views = vec_of r.buffer_views (take n r.buffer_views.items) (few n r.buffer_views.items);
}

-- ---- what they are read of

number_there : (o : Option Data) (n : ℕ) → o ≡ Some (whole n) → (P : Data → Type 0) → P (whole n)
    → MatchOption (option_and_then unless_null o) ⊥ P
number_there o n there P is =
    subst (λ (o : Option Data). MatchOption (option_and_then unless_null o) ⊥ P) (sym there) is

module _ (n : ℕ) (d : Data) (b : Buffer) (is : buffer.is d b) where
  keep : (q : List ℕ) → bytes_eq q (codes "byteLength") ≡ false → (A : Type 0) (P : Data → Type 0)
      → MatchOption (member_at q d) A P
      → MatchOption (member_at q (with_member (codes "byteLength") (whole n) d)) A P
  keep q apart A P is =
      subst (λ (o : Option Data). MatchOption (option_and_then unless_null o) A P)
      (sym (get_with_other q (codes "byteLength") (whole n) d
      (differ q (codes "byteLength") apart))) is

  buffer_is : buffer.is (with_member (codes "byteLength") (whole n) d)
      (record b { byte_length = n })
  unfolding buffer
  buffer_is = (
    object_with (codes "byteLength") (whole n) d is.0,
    (
      number_there (get (codes "byteLength") (with_member (codes "byteLength") (whole n) d)) n
          (get_with (codes "byteLength") (whole n) d is.0) _ refl,
      (
        keep (codes "uri") refl _ _ is.1.1.0,
        (
          keep (codes "name") refl _ _ is.1.1.1.0,
          (
            keep (codes "extensions") refl _ _ is.1.1.1.1.0,
            keep (codes "extras") refl _ _ is.1.1.1.1.1,
          ),
        ),
      ),
    ),
  )

short_is : (l : Option ℕ) (d : Data) (b : Buffer) → buffer.is d b
    → buffer.is (short l d) (short_buffer l b)
short_is None d b is = is
short_is (Some n) d b is = buffer_is n d b is

each_is : (ls : List (Option ℕ)) (ds : Items) (bs : List Buffer) → AllRead buffer.is ds bs
    → AllRead buffer.is (each_short ls ds) (short_buffers ls bs)
each_is ls no_items [] all = tt
each_is ls no_items (b ∷ bs) all = absurd all
each_is ls (item d ds) [] all = absurd all
each_is ls (item d ds) (b ∷ bs) all =
    (short_is (first ls) d b all.0, each_is (rest ls) ds bs all.1)

no_buffers : (ls : List (Option ℕ)) (bs : List Buffer) → bs ≡ [] → short_buffers ls bs ≡ []
no_buffers ls [] none = refl
no_buffers ls (b ∷ bs) none = cc

buffers_are : (ls : List (Option ℕ)) (o : Option Data) (bs : List Buffer)
    → ReadsList buffer.is o bs
    → ReadsList buffer.is (option_map (all_short ls) o) (short_buffers ls bs)
buffers_are ls None bs is = no_buffers ls bs is
buffers_are ls (Some null) bs is = no_buffers ls bs is
buffers_are ls (Some (boolean b)) bs is = is
buffers_are ls (Some (number n)) bs is = is
buffers_are ls (Some (string s)) bs is = is
buffers_are ls (Some (array ds)) bs is = each_is ls ds bs is
buffers_are ls (Some (object ms)) bs is = is

first_are : (n : ℕ) (ds : Items) (vs : List View) → AllRead buffer_view.is ds vs
    → AllRead buffer_view.is (take_items n ds) (take n vs)
first_are zero ds vs all = tt
first_are (suc n) no_items [] all = tt
first_are (suc n) no_items (v ∷ vs) all = absurd all
first_are (suc n) (item d ds) [] all = absurd all
first_are (suc n) (item d ds) (v ∷ vs) all = (all.0, first_are n ds vs all.1)

no_views : (n : ℕ) (vs : List View) → vs ≡ [] → take n vs ≡ []
no_views zero vs none = refl
no_views (suc n) [] none = refl
no_views (suc n) (v ∷ vs) none = cc

views_are : (n : ℕ) (o : Option Data) (vs : List View) → ReadsList buffer_view.is o vs
    → ReadsList buffer_view.is (option_map (first_of n) o) (take n vs)
views_are n None vs is = no_views n vs is
views_are n (Some null) vs is = no_views n vs is
views_are n (Some (boolean b)) vs is = is
views_are n (Some (number x)) vs is = is
views_are n (Some (string s)) vs is = is
views_are n (Some (array ds)) vs is = first_are n ds vs is
views_are n (Some (object ms)) vs is = is

none_left : (n : ℕ) (b : Bool) → (n == 0) ≡ b → (o : Option Data) (vs : List View)
    → ReadsList buffer_view.is o vs
    → ReadsList buffer_view.is (if b then None else option_map (first_of n) o) (take n vs)
none_left zero b zeros o vs is = none_at b where
  none_at : (b : Bool)
      → ReadsList buffer_view.is (if b then None else option_map (first_of zero) o) []
  none_at true = refl
  none_at false = views_are zero o vs is
none_left (suc n) true some o vs is = absurd (grind arith)
none_left (suc n) false some o vs is = views_are (suc n) o vs is

module _ (n : ℕ) (ls : List (Option ℕ)) (d : Data) (r : Root) (is : root.is d r) where
  abbrev after : Data
  after = trimmed_to n ls d

  -- a row at another name reads the same
  kept : (q : List ℕ) → bytes_eq q (codes "buffers") ≡ false
      → bytes_eq q (codes "bufferViews") ≡ false → (A : Type 0) (P : Data → Type 0)
      → MatchOption (member_at q d) A P → MatchOption (member_at q after) A P
  kept q buffer view A P is =
      subst (λ (o : Option Data). MatchOption (option_and_then unless_null o) A P)
      (sym (trimmed_other n ls d q (differ q (codes "buffers") buffer)
      (differ q (codes "bufferViews") view))) is

  pub is_short : root.is after (short_root n ls r)
  unfolding root
  is_short = (
    trimmed_object n ls d is.0,
    (
      kept (codes "asset") refl refl _ _ is.1.0,
      (
        kept (codes "accessors") refl refl _ _ is.1.1.0,
        (
          kept (codes "animations") refl refl _ _ is.1.1.1.0,
          (
            subst (λ o. ReadsList buffer.is o (short_buffers ls r.buffers.items))
                (sym (trimmed_buffers n ls d is.0))
                (buffers_are ls (get (codes "buffers") d) r.buffers.items is.1.1.1.1.0),
            (
              subst (λ o. ReadsList buffer_view.is o (take n r.buffer_views.items))
                  (sym (trimmed_views n ls d is.0))
                  (none_left n (n == 0) refl (get (codes "bufferViews") d) r.buffer_views.items
                  is.1.1.1.1.1.0),
              (
                kept (codes "cameras") refl refl _ _ is.1.1.1.1.1.1.0,
                (
                  kept (codes "images") refl refl _ _ is.1.1.1.1.1.1.1.0,
                  (
                    kept (codes "materials") refl refl _ _ is.1.1.1.1.1.1.1.1.0,
                    (
                      kept (codes "meshes") refl refl _ _ is.1.1.1.1.1.1.1.1.1.0,
                      (
                        kept (codes "nodes") refl refl _ _ is.1.1.1.1.1.1.1.1.1.1.0,
                        (
                          kept (codes "samplers") refl refl _ _ is.1.1.1.1.1.1.1.1.1.1.1.0,
                          (
                            kept (codes "scene") refl refl _ _ is.1.1.1.1.1.1.1.1.1.1.1.1.0,
                            (
                              kept (codes "scenes") refl refl _ _
                                  is.1.1.1.1.1.1.1.1.1.1.1.1.1.0,
                              (
                                kept (codes "skins") refl refl _ _
                                    is.1.1.1.1.1.1.1.1.1.1.1.1.1.1.0,
                                (
                                  kept (codes "textures") refl refl _ _
                                      is.1.1.1.1.1.1.1.1.1.1.1.1.1.1.1.0,
                                  (
                                    kept (codes "extensionsUsed") refl refl _ _
                                        is.1.1.1.1.1.1.1.1.1.1.1.1.1.1.1.1.0,
                                    (
                                      kept (codes "extensionsRequired") refl refl _ _
                                          is.1.1.1.1.1.1.1.1.1.1.1.1.1.1.1.1.1.0,
                                      (
                                        kept (codes "extensions") refl refl _ _
                                            is.1.1.1.1.1.1.1.1.1.1.1.1.1.1.1.1.1.1.0,
                                        kept (codes "extras") refl refl _ _
                                            is.1.1.1.1.1.1.1.1.1.1.1.1.1.1.1.1.1.1.1,
                                      ),
                                    ),
                                  ),
                                ),
                              ),
                            ),
                          ),
                        ),
                      ),
                    ),
                  ),
                ),
              ),
            ),
          ),
        ),
      ),
    ),
  )
