-- From the parts of an accessor, each read by one answer for its buffer, to the accessor.
use Rattle.std.proofs.Common.{◌≡◌, ℕ, ◌+◌, ◌-◌, ◌*◌, ◌<◌, ◌≤◌, List, length, map, take, drop, refl}
use Rattle.std.proofs.Common.{sym, ap, subst, ◌∙◌, arith}
use Rattle.std.specs.Prelude.{Option, Some, None, SomeIff, unwrap_or, option_and_then, is_some}
use Rattle.std.specs.Prelude.{is_none, Bool, true, false, not, ◌&&◌}
use Rattle.std.specs.Option.{option_map}
use Rattle.std.specs.List.{range_with_len}
use Rattle.byteorder.specs.Endian.{little_number}
use Rattle.gltf_json.specs.declared.root.Root.{Root}
use Rattle.gltf_json_record.specs.declared.validation.Checked.{Checked}
use Rattle.gltf_json_record.specs.declared.validation.Checked.TheVariants.{Invalid, Valid}
use Rattle.gltf_json_geometry.specs.declared.buffer.View.{View}
use Rattle.gltf_json_geometry.specs.declared.accessor.Accessor.{Accessor}
use Rattle.gltf_json_geometry.specs.declared.accessor.sparse.Sparse.{Sparse}
use Rattle.gltf_rules.specs.contracts.records.ValidRecords.TheImpl as valid
use Rattle.gltf_handles.specs.declared.accessor.sparse.IndexType.{IndexType}
use Rattle.gltf_handles.specs.declared.accessor.sparse.Sparse.{Sparse as SparseHandle}
use Rattle.gltf_handles.specs.declared.buffer.View.{View as ViewHandle}
use Rattle.gltf_handles.specs.Accessors.{IsSparse}
use Rattle.gltf_handles.specs.Buffers.{IsView}
use Rattle.gltf_handles.specs.Members.{Follows}
use Rattle.gltf_handles.specs.Sizes.{Means, code_of, index_type, index_size, stored_size}
use Rattle.gltf_items.specs.Plain.{plain}
use Rattle.gltf_items.specs.Sparse.{sparse}
use Rattle.gltf_items.specs.declared.item.Item.{Ghosts}
use Rattle.gltf_data.specs.Answers.{Results, AlwaysAnswers, IsAnsweredFor, answer_for}
use Rattle.gltf_data.specs.Parts.{Part, part_of, Answers, Fits, PartReadable, BaseReadable}
use Rattle.gltf_data.specs.Parts.{addressed, items_in, part_items, base_items, index_items}
use Rattle.gltf_data.specs.Parts.{base_part, index_part, value_part, view_at, view_offset, stride}
use Rattle.gltf_access.specs.Raw.{Raw, IsLent, IsAnsweredIn, answer_in, part_view, IsRawPart}
use Rattle.gltf_access.specs.Raw.{raw_bytes}
use Rattle.gltf_access.specs.Components.{is_zeros, spaced, spaced_part, base_at, values_at}
use Rattle.gltf_access.specs.Components.{IsOverridable, overridden_items}
use Rattle.gltf_access.specs.Taken.{TakesPart, TakesIndices, TakesBase, TakesParts}

-- what follows from what holds by an answer
pub lent_by : {Gives : Results} {r : Root} {v : Option View} {P Q : Option (List ℕ) → Type 0}
    → ((given : Option (List ℕ)) → P given → Q given) → IsLent Gives r v P → IsLent Gives r v Q
lent_by {v = v} f h = record {
  answer = h.answer;
  answered = h.answered;
  is_by = f h.answer h.is_by;
  alike = λ always gives. f (answer_in always v) (h.alike always gives);
}

-- ---- the items of a part

-- where bytes begin with the first of some items and end with the last one, these are all items
-- there
abbrev pub ItemsOfACut : {X : Type 0} → ℕ → (List ℕ → X) → Type 0
ItemsOfACut size value = (bytes : List ℕ) (stride start count : ℕ) → size ≤ stride → 0 < count
    → start + (stride * (count - 1) + size) ≤ length bytes
    → plain size value (take (stride * (count - 1) + size) (drop start bytes)) stride
    ≡ map (λ i. value (drop (start + i * stride) bytes)) (range_with_len 0 count)

some_none : (raw : Raw) → Some raw ≡ None → ⊥
some_none raw is = cc

module _ {X : Type 0} (value : List ℕ → X) (p : Part) where
  cut_items : (bytes : List ℕ) → ItemsOfACut p.size value → Fits p bytes
      → plain p.size value (raw_bytes p bytes).bytes (stride p.view p.size)
      ≡ items_in value p (Some bytes)
  unfolding addressed
  cut_items bytes law fits =
      let room : view_offset p.view + p.offset + (stride p.view p.size * (p.count - 1) + p.size)
      ≤ length bytes = omega (arith, fits.view_within, fits.items_within) in
      law bytes (stride p.view p.size) (view_offset p.view + p.offset) p.count fits.apart fits.some
      room

  at_answer : ItemsOfACut p.size value → (raw : Option Raw) (given : Option (List ℕ))
      → IsRawPart (Some p) given raw
      → SomeIff (option_map (λ b. plain p.size value b.bytes b.stride) raw)
      (PartReadable (Some p) given) (part_items value (Some p) given)
  at_answer law None None is = λ h. h
  at_answer law None (Some bytes) is = is
  at_answer law (Some raw) None is = absurd (some_none raw is)
  at_answer law (Some raw) (Some bytes) is = (
    is.0,
    ap (λ b. plain p.size value b.bytes b.stride) is.1 ∙ cut_items bytes law is.0,
  )

  pub part_taken : {Gives : Results} {r : Root} → ItemsOfACut p.size value → (raw : Option Raw)
      → IsLent Gives r (Some p.view) (λ given. IsRawPart (Some p) given raw)
      → TakesPart Gives value r (Some p)
      (option_map (λ b. plain p.size value b.bytes b.stride) raw)
  part_taken law raw h = lent_by (at_answer law raw) h

-- such items do not overlap
apart_by : (p : Part) (raw : Raw) (given : Option (List ℕ)) → IsRawPart (Some p) given (Some raw)
    → p.size ≤ raw.stride
apart_by p raw None is = absurd (some_none raw is)
apart_by p raw (Some bytes) is =
    subst (λ (n : ℕ). p.size ≤ n) (sym (ap (λ b. b.stride) is.1)) is.0.apart

pub apart : {Gives : Results} {r : Root} (p : Part) (raw : Raw)
    → IsLent Gives r (Some p.view) (λ given. IsRawPart (Some p) given (Some raw))
    → p.size ≤ raw.stride
apart p raw h = apart_by p raw h.answer h.is_by

-- ---- which part that is

-- the part of the records, in the document of the handle
pub moved : {X : Type 0} {Gives : Results} (value : List ℕ → X) (d r : Root) → d ≡ r
    → (part at : Option Part) → part ≡ at → (items : Option (List X))
    → TakesPart Gives value d at items → TakesPart Gives value r part items
moved {Gives = Gives} value d r same part at is items h =
    subst (λ part. TakesPart Gives value r part items) (sym is)
    (subst (λ d. TakesPart Gives value d at items) same h)

view_is : (r : Root) (o : Option ℕ) (v : ViewHandle Root valid.ghosts)
    → Follows (IsView r) o (Some v)
    → (option_and_then (view_at r) o ≡ Some v.inner.json.now) × (v.inner.document.now ≡ r)
view_is r None v h = absurd h
view_is r (Some i) v h = (h.json, h.document)

pub base_part_is : (n size : ℕ) (r : Root) (a : Accessor) (v : ViewHandle Root valid.ghosts)
    (offset count : ℕ) → Follows (IsView r) a.buffer_view (Some v)
    → offset ≡ unwrap_or a.byte_offset 0 → count ≡ a.count
    → (base_at n size r a ≡ Some (part_of (spaced n v.inner.json.now) offset count size))
    × (v.inner.document.now ≡ r)
base_part_is n size r a v offset count follows o many =
    let view = view_is r a.buffer_view v follows in
    let at : base_part size r a ≡ Some (part_of v.inner.json.now offset count size) =
    rw (view.0, o, many) refl in
    (ap (λ part. spaced_part n part) at, view.1)

no_view : (r : Root) (o : Option ℕ) → Follows (IsView {G = valid.ghosts} r) o None → o ≡ None
no_view r None h = refl
no_view r (Some i) h = absurd h

pub no_base_part : (n size : ℕ) (r : Root) (a : Accessor)
    → Follows (IsView {G = valid.ghosts} r) a.buffer_view None → base_at n size r a ≡ None
no_base_part n size r a follows =
    let at : base_part size r a ≡ None = rw (no_view r a.buffer_view follows) refl in
    ap (λ part. spaced_part n part) at

pub value_part_is : (n size : ℕ) (r : Root) (s : Sparse) (v : View) (offset count : ℕ)
    → view_at r s.values.buffer_view ≡ Some v → offset ≡ s.values.byte_offset → count ≡ s.count
    → values_at n size r s ≡ Some (part_of (spaced n v) offset count size)
value_part_is n size r s v offset count at o many =
    let is : value_part size r s ≡ Some (part_of v offset count size) = rw (at, o, many) refl in
    ap (λ part. spaced_part n part) is

index_part_is : (r : Root) (s : Sparse) (v : View) (offset count size : ℕ)
    → view_at r s.indices.buffer_view ≡ Some v → offset ≡ s.indices.byte_offset → count ≡ s.count
    → size ≡ stored_size s.indices → index_part r s ≡ Some (part_of v offset count size)
index_part_is r s v offset count size at o n z = rw (at, o, n, z) refl

size_is : (code : Checked _) (meaning : IndexType) → Means index_type code meaning
    → index_size meaning ≡ code_of (λ c. index_size (index_type c)) code
size_is Invalid meaning h = absurd h
size_is (Valid c) meaning h = ap index_size h

pub indices_taken : {Gives : Results} (r : Root) (s : Sparse) (v : View) (d : Root)
    (offset count : ℕ) (meaning : IndexType) (items : Option (List ℕ)) → d ≡ r
    → view_at r s.indices.buffer_view ≡ Some v → offset ≡ s.indices.byte_offset
    → count ≡ s.count → Means index_type s.indices.component_type meaning
    → TakesPart Gives (little_number (index_size meaning)) d
    (Some (part_of v offset count (index_size meaning))) items
    → TakesIndices Gives r s items
indices_taken {Gives = Gives} r s v d offset count meaning items same at o n is h =
    let size : index_size meaning ≡ stored_size s.indices =
    size_is s.indices.component_type meaning is in
    let sized : TakesPart Gives (little_number (stored_size s.indices)) d
    (Some (part_of v offset count (stored_size s.indices))) items =
    subst (λ (z : ℕ). TakesPart Gives (little_number z) d (Some (part_of v offset count z)) items)
    size h in
    moved (little_number (stored_size s.indices)) d r same (index_part r s)
    (Some (part_of v offset count (stored_size s.indices)))
    (index_part_is r s v offset count (stored_size s.indices) at o n refl) items sized

-- ---- what the values are put over

viewed : {X : Type 0} (t : Ghosts X) (count : ℕ) (p : Part) (items : Option (List X))
    (given : Option (List ℕ))
    → SomeIff items (PartReadable (Some p) given) (part_items t.value (Some p) given)
    → SomeIff (option_map Some items) (BaseReadable count (Some p) given)
    (base_items t.value (Some p) given)
viewed t count p None given is = is
viewed t count p (Some xs) given is = (is.0, ap Some is.1)

module _ {X : Type 0} {Gives : Results} (n : ℕ) (t : Ghosts X) (r : Root) (a : Accessor) where
  pub base_viewed : (p : Part) → base_at n t.size r a ≡ Some p → (d : Root) → d ≡ r
      → (items : Option (List X)) (out : Option (Option (List X))) → option_map Some items ≡ out
      → TakesPart Gives t.value d (Some p) items → TakesBase Gives n t r a out
  base_viewed p is d same items out gives h =
      let here : TakesPart Gives t.value r (Some p) items =
      subst (λ d. TakesPart Gives t.value d (Some p) items) same h in
      let all : TakesBase Gives n t r a (option_map Some items) =
      subst (λ part. IsLent Gives r (part_view part)
      (λ given. SomeIff (option_map Some items) (BaseReadable a.count part given)
      (base_items t.value part given))) (sym is) (lent_by (viewed t a.count p items) here) in
      subst (λ o. TakesBase Gives n t r a o) gives all

  pub base_zeros : base_at n t.size r a ≡ None → 0 < a.count → TakesBase Gives n t r a (Some None)
  base_zeros is some =
      subst (λ part. IsLent Gives r (part_view part)
      (λ given. SomeIff (Some None) (BaseReadable a.count part given)
      (base_items t.value part given))) (sym is)
      (record {
        answer = None;
        answered = refl;
        is_by = (some, refl);
        alike = λ always gives. (some, refl);
      })

  pub base_nothing : base_at n t.size r a ≡ None → a.count ≡ 0 → TakesBase Gives n t r a None
  base_nothing is none =
      let empty : 0 < a.count → ⊥ = λ some. absurd (omega (arith, some, none)) in
      subst (λ part. IsLent Gives r (part_view part)
      (λ given. SomeIff None (BaseReadable a.count part given)
      (base_items t.value part given))) (sym is)
      (record {
        answer = None;
        answered = refl;
        is_by = empty;
        alike = λ always gives. empty;
      })

-- ---- the accessor

part_answered : (Gives : Results) (r : Root) (part : Option Part) (answer : Option (List ℕ))
    → IsAnsweredIn Gives r (part_view part) answer → IsAnsweredFor Gives r part answer
part_answered Gives r None answer h = tt
part_answered Gives r (Some p) answer h = h

same_for : (always : ℕ → Option (List ℕ)) (part : Option Part)
    → answer_in always (part_view part) ≡ answer_for always part
same_for always None = refl
same_for always (Some p) = refl

module _ {Gives : Results} {r : Root} where
  for_always : {P : Option (List ℕ) → Type 0} (part : Option Part) → IsLent Gives r (part_view part) P
      → (always : ℕ → Option (List ℕ)) → AlwaysAnswers Gives r always
      → P (answer_for always part)
  for_always {P = P} part h always gives =
      subst P (same_for always part) (h.alike always gives)

all_exact : {X : Type 0} (n : ℕ) (t : Ghosts X) (r : Root) (a : Accessor) (s : Sparse)
    (o : Answers) (bs : Option (List X)) (is : List ℕ) (vs : List X)
    → SomeIff (Some bs) (BaseReadable a.count (base_at n t.size r a) o.base)
    (base_items t.value (base_at n t.size r a) o.base)
    → SomeIff (Some is) (PartReadable (index_part r s) o.indices) (index_items r s o.indices)
    → SomeIff (Some vs) (PartReadable (values_at n t.size r s) o.values)
    (part_items t.value (values_at n t.size r s) o.values)
    → SomeIff (Some (sparse t.zero_item bs a.count is vs)) (IsOverridable n t.size r a s o)
    (overridden_items n t r a s o)
all_exact n t r a s o bs is vs b i v = (
  record { base = b.0; indices = i.0; values = v.0 },
  ap (λ x. sparse t.zero_item x a.count is vs) b.1
      ∙ ap (λ x. sparse t.zero_item (base_items t.value (base_at n t.size r a) o.base) a.count
      x vs) i.1
      ∙ ap (λ x. sparse t.zero_item (base_items t.value (base_at n t.size r a) o.base) a.count
      (index_items r s o.indices) x) v.1,
)

module _ {X : Type 0} {Gives : Results} (n : ℕ) (t : Ghosts X) (r : Root) (a : Accessor) where
  pub plain_taken : (items : Option (List X))
      → TakesPart Gives t.value r (base_at n t.size r a) items
      → TakesParts Gives n t r a None items
  plain_taken items h = record {
    answers = record { base = h.answer; indices = None; values = None };
    asked = part_answered Gives r (base_at n t.size r a) h.answer h.answered;
    exactly = h.is_by;
    alike = λ always gives. for_always (base_at n t.size r a) h always gives;
  }

  module _ (s : Sparse) where
    pub none_taken : (out : Option (List X)) → None ≡ out → TakesParts Gives n t r a (Some s) None
        → TakesParts Gives n t r a (Some s) out
    none_taken out is h = subst (λ o. TakesParts Gives n t r a (Some s) o) is h

    pub no_base : TakesBase Gives n t r a None → TakesParts Gives n t r a (Some s) None
    no_base b = record {
      answers = record { base = b.answer; indices = None; values = None };
      asked = record {
        base = part_answered Gives r (base_at n t.size r a) b.answer b.answered;
        indices = λ ready. absurd (b.is_by ready);
        values = λ ready others. absurd (b.is_by ready);
      };
      exactly = λ readable. b.is_by readable.base;
      alike = λ always gives readable.
          for_always (base_at n t.size r a) b always gives readable.base;
    }

    pub no_indices : (bs : Option (List X)) → TakesBase Gives n t r a (Some bs)
        → TakesIndices Gives r s None → TakesParts Gives n t r a (Some s) None
    no_indices bs b i = record {
      answers = record { base = b.answer; indices = i.answer; values = None };
      asked = record {
        base = part_answered Gives r (base_at n t.size r a) b.answer b.answered;
        indices = λ ready. part_answered Gives r (index_part r s) i.answer i.answered;
        values = λ ready others. absurd (i.is_by others);
      };
      exactly = λ readable. i.is_by readable.indices;
      alike = λ always gives readable.
          for_always (index_part r s) i always gives readable.indices;
    }

    pub no_values : (bs : Option (List X)) → TakesBase Gives n t r a (Some bs)
        → (is : List ℕ) → TakesIndices Gives r s (Some is)
        → TakesPart Gives t.value r (values_at n t.size r s) None
        → TakesParts Gives n t r a (Some s) None
    no_values bs b is i v = record {
      answers = record { base = b.answer; indices = i.answer; values = v.answer };
      asked = record {
        base = part_answered Gives r (base_at n t.size r a) b.answer b.answered;
        indices = λ ready. part_answered Gives r (index_part r s) i.answer i.answered;
        values = λ ready others. part_answered Gives r (values_at n t.size r s) v.answer v.answered;
      };
      exactly = λ readable. v.is_by readable.values;
      alike = λ always gives readable.
          for_always (values_at n t.size r s) v always gives readable.values;
    }

    pub all_taken : (bs : Option (List X)) → TakesBase Gives n t r a (Some bs)
        → (is : List ℕ) → TakesIndices Gives r s (Some is)
        → (vs : List X) → TakesPart Gives t.value r (values_at n t.size r s) (Some vs)
        → TakesParts Gives n t r a (Some s) (Some (sparse t.zero_item bs a.count is vs))
    all_taken bs b is i vs v = record {
      answers = record { base = b.answer; indices = i.answer; values = v.answer };
      asked = record {
        base = part_answered Gives r (base_at n t.size r a) b.answer b.answered;
        indices = λ ready. part_answered Gives r (index_part r s) i.answer i.answered;
        values = λ ready others. part_answered Gives r (values_at n t.size r s) v.answer v.answered;
      };
      exactly = all_exact n t r a s (record { base = b.answer; indices = i.answer; values = v.answer })
          bs is vs b.is_by i.is_by v.is_by;
      alike = λ always gives. all_exact n t r a s (record {
        base = answer_for always (base_at n t.size r a);
        indices = answer_for always (index_part r s);
        values = answer_for always (values_at n t.size r s);
      }) bs is vs
          (for_always (base_at n t.size r a) b always gives)
          (for_always (index_part r s) i always gives)
          (for_always (values_at n t.size r s) v always gives);
    }

pub no_sparse : (r : Root) (o : Option Sparse) → Follows (IsSparse {G = valid.ghosts} r) o None
    → o ≡ None
no_sparse r None h = refl
no_sparse r (Some s) h = absurd h

pub sparse_is : (r : Root) (o : Option Sparse) (s : SparseHandle Root valid.ghosts)
    → Follows (IsSparse r) o (Some s) → (o ≡ Some s.inner.json.now) × (s.inner.document.now ≡ r)
sparse_is r None s h = absurd h
sparse_is r (Some x) s h = (ap Some (sym h.json), h.document)

-- the accessor by its sparse part, or by its view alone
module _ {X : Type 0} {Gives : Results} (n : ℕ) (t : Ghosts X) (r : Root) (a : Accessor)
    (items out : Option (List X)) where
  pub read_plain : a.sparse ≡ None → items ≡ out
      → TakesPart Gives t.value r (base_at n t.size r a) items
      → TakesParts Gives n t r a a.sparse out
  read_plain none is h =
      subst (λ s. TakesParts Gives n t r a s out) (sym none)
      (subst (λ o. TakesParts Gives n t r a None o) is (plain_taken n t r a items h))

  pub read_sparse : (s : Sparse) → a.sparse ≡ Some s → items ≡ out
      → TakesParts Gives n t r a (Some s) items → TakesParts Gives n t r a a.sparse out
  read_sparse s some is h =
      subst (λ s. TakesParts Gives n t r a s out) (sym some)
      (subst (λ o. TakesParts Gives n t r a (Some s) o) is h)

-- the parts of a handle of the same document
pub indices_in : {Gives : Results} (d r : Root) → d ≡ r → (s : Sparse) (items : Option (List ℕ))
    → TakesIndices Gives d s items → TakesIndices Gives r s items
indices_in {Gives = Gives} d r is s items h = subst (λ d. TakesIndices Gives d s items) is h

pub values_in : {X : Type 0} {Gives : Results} (value : List ℕ → X) (n size : ℕ) (d r : Root)
    → d ≡ r → (s : Sparse) (items : Option (List X))
    → TakesPart Gives value d (values_at n size d s) items
    → TakesPart Gives value r (values_at n size r s) items
values_in {Gives = Gives} value n size d r is s items h =
    subst (λ d. TakesPart Gives value d (values_at n size d s) items) is h

-- ---- whether there is a view, and a sparse part

view_there : (r : Root) (o : Option ℕ) (v : Option (ViewHandle Root valid.ghosts))
    → Follows (IsView r) o v → is_none v ≡ is_none (option_and_then (view_at r) o)
view_there r None None h = refl
view_there r None (Some v) h = absurd h
view_there r (Some i) None h = absurd h
view_there r (Some i) (Some v) h = sym (ap is_none h.json)

sparse_there : (r : Root) (o : Option Sparse) (s : Option (SparseHandle Root valid.ghosts))
    → Follows (IsSparse r) o s → is_none s ≡ is_none o
sparse_there r None None h = refl
sparse_there r None (Some s) h = absurd h
sparse_there r (Some x) None h = absurd h
sparse_there r (Some x) (Some s) h = refl

some_is : {X : Type 0} (o : Option X) → is_some o ≡ true → is_none o ≡ false
some_is None is = sym is
some_is (Some x) is = refl

none_is : {X : Type 0} (o : Option X) → is_some o ≡ false → is_none o ≡ true
none_is None is = refl
none_is (Some x) is = sym is

pub none_of : {X : Type 0} (o : Option X) (b : Bool) → is_some o ≡ not b → b ≡ is_none o
none_of None true is = refl
none_of None false is = is
none_of (Some x) true is = is
none_of (Some x) false is = refl

pub viewed_not : (r : Root) (a : Accessor) (v : Option (ViewHandle Root valid.ghosts))
    → Follows (IsView r) a.buffer_view v → is_some v ≡ true → false ≡ is_zeros r a
viewed_not r a v follows is =
    ap (λ (b : Bool). b && is_none a.sparse)
    (sym (some_is v is) ∙ view_there r a.buffer_view v follows)

pub unviewed : (r : Root) (a : Accessor) (v : Option (ViewHandle Root valid.ghosts))
    (s : Option (SparseHandle Root valid.ghosts)) → Follows (IsView r) a.buffer_view v
    → Follows (IsSparse r) a.sparse s → is_some v ≡ false → is_none s ≡ is_zeros r a
unviewed r a v s at over is =
    sparse_there r a.sparse s over
    ∙ ap (λ (b : Bool). b && is_none a.sparse)
    (sym (none_is v is) ∙ view_there r a.buffer_view v at)
