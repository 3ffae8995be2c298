-- Values in which nothing is found.
use Rattle.std.proofs.Common.{◌≡◌, ℕ, ◌+◌, List, [], ◌∷◌, ◌++◌, length, Bool, true, false}
use Rattle.std.proofs.Common.{◌==◌, refl, sym, ap, ◌∙◌, Option, Some, None, codes, arith}
use Rattle.std.proofs.Common.{option_and_then, Ordering, Less, Equal, Greater, nat_cmp, is_eq}
use Rattle.std.proofs.Common.{bytes_eq, true≢false}
use Rattle.std.proofs.lemmas.Bool.{and_parts, eqb-true}
use Rattle.std.proofs.lemmas.Map.Text.{is_eq-slice_cmp}
use Rattle.std.proofs.lemmas.Slice.Eq.{bytes_eq-Decides}
use Rattle.std.specs.Cmp.Lexicographic.{slice_cmp}
use Rattle.std.specs.Ordering.{match_ordering}
use Rattle.std.specs.Prelude.{⊤, MatchOption, is_none}
use Rattle.serde_json.specs.Data.{Data, null, boolean, number, string, array, object, Items}
use Rattle.serde_json.specs.Data.{no_items, item, Members, no_members, member}
use Rattle.serde_json.specs.Find.{get, get_member, as_array}
use Rattle.gltf_json.specs.Documents.{root}
use Rattle.gltf_json.specs.declared.root.Root.{Root}
use Rattle.gltf_json_animation.specs.Animations.{animation}
use Rattle.gltf_json_geometry.specs.Accessors.{accessor}
use Rattle.gltf_json_geometry.specs.Accessors as accessors
use Rattle.gltf_json_geometry.specs.declared.accessor.Accessor.{Accessor}
use Rattle.gltf_json_geometry.specs.declared.accessor.sparse.Sparse.{Sparse}
use Rattle.gltf_json_keys.specs.Keys.{Lacks, ItemsLack, MembersLack, PartsLack, MembersPartsLack}
use Rattle.gltf_json_keys.specs.Keys.{is_among}
use Rattle.gltf_json_record.specs.Items.{AllRead}
use Rattle.gltf_json_record.specs.Member.{member_at, unless_null}
use Rattle.gltf_json_record.specs.Place.{Place, named, numbered}
use Rattle.gltf_findings.specs.Checks.{Checks, At, ◌&◌, findings_of}
use Rattle.gltf_findings.specs.Checks.{optional_checks}
use Rattle.gltf_inspect_unkept.specs.Parts.{Names, ChecksOf, at_checks, each_checks, both_checks}
use Rattle.gltf_inspect_unkept.specs.Parts.{declared_checks, extended, items_checks}
use Rattle.gltf_inspect_unkept.specs.Documents as parts
use Rattle.gltf_inspect_unkept.specs.Documents.{document, declared_by}
use Rattle.gltf_inspect_unkept.specs.Laws.{FindsNothing, has_none, none_is_sparse}

-- nothing is found, wherever it stands
abbrev Quiet : Checks → Type 0
Quiet c = (path : List Place) → findings_of path c ≡ []

quiet_both : (a b : Checks) → Quiet a → Quiet b → Quiet (a & b)
quiet_both a b qa qb path = ap (λ found. found ++ findings_of path b) (qa path) ∙ qb path

-- ---- without a name

module _ (k : List ℕ) where
  abbrev LacksIt : Option Data → Type 0
  LacksIt None = ⊤
  LacksIt (Some d) = Lacks k d

  one_of : (o : Ordering) (a b c : Option Data) → LacksIt a → LacksIt b → LacksIt c
      → LacksIt (match_ordering o a b c)
  one_of Less a b c p q r = p
  one_of Equal a b c p q r = q
  one_of Greater a b c p q r = r

  member_lacks : (name : List ℕ) (ms : Members) → MembersLack k ms
      → LacksIt (get_member name ms)
  member_lacks name no_members lacks = tt
  member_lacks name (member l e ms) lacks =
      one_of (slice_cmp nat_cmp name l) (get_member name ms) (Some e) (get_member name ms)
      (member_lacks name ms lacks.2) lacks.1 (member_lacks name ms lacks.2)

  get_lacks : (name : List ℕ) (d : Data) → Lacks k d → LacksIt (get name d)
  get_lacks name null lacks = tt
  get_lacks name (boolean b) lacks = tt
  get_lacks name (number n) lacks = tt
  get_lacks name (string s) lacks = tt
  get_lacks name (array ds) lacks = tt
  get_lacks name (object ms) lacks = member_lacks name ms lacks

  unless_null_lacks : (d : Data) → Lacks k d → LacksIt (unless_null d)
  unless_null_lacks null lacks = tt
  unless_null_lacks (boolean b) lacks = tt
  unless_null_lacks (number n) lacks = tt
  unless_null_lacks (string s) lacks = tt
  unless_null_lacks (array ds) lacks = lacks
  unless_null_lacks (object ms) lacks = lacks

  there_lacks : (o : Option Data) → LacksIt o → LacksIt (option_and_then unless_null o)
  there_lacks None lacks = tt
  there_lacks (Some d) lacks = unless_null_lacks d lacks

  -- in what lacks the name these checks find nothing
  abbrev FindsNone : ChecksOf → Type 0
  FindsNone c = (used : Names) (d : Data) → Lacks k d → Quiet (c used d)

  optional_quiet : (c : ChecksOf) → FindsNone c → (used : Names) (o : Option Data) → LacksIt o
      → Quiet (optional_checks (c used) o)
  optional_quiet c none used None lacks path = refl
  optional_quiet c none used (Some d) lacks path = none used d lacks path

  at_none : (name : List ℕ) (c : ChecksOf) → FindsNone c → FindsNone (at_checks name c)
  at_none name c none used d lacks path =
      optional_quiet c none used (member_at name d)
      (there_lacks (get name d) (get_lacks name d lacks)) (path ++ named name ∷ [])

  items_none : (c : ChecksOf) → FindsNone c → (used : Names) (i : ℕ) (ds : Items)
      → ItemsLack k ds → Quiet (items_checks (c used) i ds)
  items_none c none used i no_items lacks path = refl
  items_none c none used i (item d ds) lacks path =
      quiet_both (At (numbered i) (c used d)) (items_checks (c used) (i + 1) ds)
      (λ p. none used d lacks.0 (p ++ numbered i ∷ [])) (items_none c none used (i + 1) ds lacks.1) path

  each_none : (c : ChecksOf) → FindsNone c → FindsNone (each_checks c)
  each_none c none used null lacks path = refl
  each_none c none used (boolean b) lacks path = refl
  each_none c none used (number n) lacks path = refl
  each_none c none used (string s) lacks path = refl
  each_none c none used (array ds) lacks path = items_none c none used 0 ds lacks path
  each_none c none used (object ms) lacks path = refl

  both_none : (a b : ChecksOf) → FindsNone a → FindsNone b → FindsNone (both_checks a b)
  both_none a b na nb used d lacks path =
      quiet_both (a used d) (b used d) (na used d lacks) (nb used d lacks) path

  -- the member itself is not there
  other_than : (o : Ordering) (a b : Option Data) → is_eq o ≡ false → a ≡ None
      → match_ordering o a b a ≡ None
  other_than Less a b apart none = none
  other_than Equal a b apart none = absurd (true≢false apart)
  other_than Greater a b apart none = none

  not_eq : (b : Bool) (xs ys : List ℕ) → bytes_eq xs ys ≡ b → (ys ≡ xs → ⊥) → b ≡ false
  not_eq true xs ys e apart = absurd (apart (sym ((bytes_eq-Decides xs ys).0 e)))
  not_eq false xs ys e apart = refl

  no_member : (ms : Members) → MembersLack k ms → get_member k ms ≡ None
  no_member no_members lacks = refl
  no_member (member l e ms) lacks =
      other_than (slice_cmp nat_cmp k l) (get_member k ms) (Some e)
      (is_eq-slice_cmp k l ∙ not_eq _ k l refl lacks.0) (no_member ms lacks.2)

  not_there : (d : Data) → Lacks k d → get k d ≡ None
  not_there null lacks = refl
  not_there (boolean b) lacks = refl
  not_there (number n) lacks = refl
  not_there (string s) lacks = refl
  not_there (array ds) lacks = refl
  not_there (object ms) lacks = no_member ms lacks

  at_it_none : (c : ChecksOf) → FindsNone (at_checks k c)
  at_it_none c used d lacks path =
      ap (λ o. findings_of (path ++ named k ∷ [])
      (optional_checks (c used) (option_and_then unless_null o))) (not_there d lacks)

abbrev name : List ℕ
name = codes "extensions"

extended_none : FindsNone name extended
extended_none = at_it_none name declared_checks

accessor_none : FindsNone name parts.accessor
accessor_none =
    at_none name (codes "sparse") parts.sparse (both_none name extended
    (both_checks (at_checks (codes "indices") extended) (at_checks (codes "values") extended))
    extended_none
    (both_none name (at_checks (codes "indices") extended) (at_checks (codes "values") extended)
    (at_none name (codes "indices") extended extended_none)
    (at_none name (codes "values") extended extended_none)))

animation_none : FindsNone name parts.animation
animation_none =
    both_none name (at_checks (codes "channels") (each_checks parts.channel))
    (at_checks (codes "samplers") (each_checks extended))
    (at_none name (codes "channels") (each_checks parts.channel) (each_none name parts.channel
    (both_none name extended (at_checks (codes "target") extended) extended_none
    (at_none name (codes "target") extended extended_none))))
    (at_none name (codes "samplers") (each_checks extended) (each_none name extended extended_none))

document_none : FindsNone name document
document_none =
    both_none name (at_checks (codes "accessors") (each_checks parts.accessor))
    (at_checks (codes "animations") (each_checks parts.animation))
    (at_none name (codes "accessors") (each_checks parts.accessor)
    (each_none name parts.accessor accessor_none))
    (at_none name (codes "animations") (each_checks parts.animation)
    (each_none name parts.animation animation_none))

pub nothing_without_the_name : (d : Data) → Lacks (codes "extensions") d → FindsNothing d
nothing_without_the_name d lacks = document_none (declared_by d) d lacks []

-- ---- without the name in its accessors and animations

same_name : (k l : List ℕ) → is_eq (slice_cmp nat_cmp k l) ≡ true → k ≡ l
same_name k l is = (bytes_eq-Decides k l).0 (sym (is_eq-slice_cmp k l) ∙ is)

module _ (names : List (List ℕ)) (k its : List ℕ) (among : is_among names its ≡ true) where
  by_order : (l : List ℕ) (o : Ordering) (a : Option Data) (e : Data)
      → (is_eq o ≡ true → its ≡ l) → LacksIt k a → (is_among names l ≡ true → Lacks k e)
      → LacksIt k (match_ordering o a (Some e) a)
  by_order l Less a e same rest here = rest
  by_order l Equal a e same rest here = here (ap (is_among names) (sym (same refl)) ∙ among)
  by_order l Greater a e same rest here = rest

  member_part : (ms : Members) → MembersPartsLack names k ms → LacksIt k (get_member its ms)
  member_part no_members lacks = tt
  member_part (member l e ms) lacks =
      by_order l (slice_cmp nat_cmp its l) (get_member its ms) e (same_name its l)
      (member_part ms lacks.1) lacks.0

  part_lacks : (d : Data) → PartsLack names k d → LacksIt k (get its d)
  part_lacks null lacks = tt
  part_lacks (boolean b) lacks = tt
  part_lacks (number n) lacks = tt
  part_lacks (string s) lacks = tt
  part_lacks (array ds) lacks = tt
  part_lacks (object ms) lacks = member_part ms lacks

abbrev whole : List (List ℕ)
whole = codes "accessors" ∷ codes "animations" ∷ []

at_part : (its : List ℕ) (c : ChecksOf) → is_among whole its ≡ true → FindsNone name c
    → (used : Names) (d : Data) → PartsLack whole name d → Quiet (at_checks its c used d)
at_part its c among none used d lacks path =
    optional_quiet name c none used (member_at its d)
    (there_lacks name (get its d) (part_lacks whole name its among d lacks)) (path ++ named its ∷ [])

pub nothing_in_its_parts : (d : Data) → PartsLack whole name d → FindsNothing d
nothing_in_its_parts d lacks =
    quiet_both (at_checks (codes "accessors") (each_checks parts.accessor) (declared_by d) d)
    (at_checks (codes "animations") (each_checks parts.animation) (declared_by d) d)
    (at_part (codes "accessors") (each_checks parts.accessor) refl
    (each_none name parts.accessor accessor_none) (declared_by d) d lacks)
    (at_part (codes "animations") (each_checks parts.animation) refl
    (each_none name parts.animation animation_none) (declared_by d) d lacks) []

-- ---- without animations and sparse parts

not_sparse : (o : Option Data) (s : Option Sparse) → (P : Data → Sparse → Type 0)
    → is_none s ≡ true
    → MatchOption o (s ≡ None) (λ e. MatchOption s ⊥ (P e)) → o ≡ None
not_sparse None s P none is = refl
not_sparse (Some e) None P none is = absurd is
not_sparse (Some e) (Some x) P none is = absurd (true≢false (sym none))

accessor_quiet : (used : Names) (d : Data) (a : Accessor) → accessor.is d a
    → is_none a.sparse ≡ true → Quiet (parts.accessor used d)
unfolding accessor
accessor_quiet used d a is none path =
    ap (λ o. findings_of (path ++ named (codes "sparse") ∷ [])
    (optional_checks (parts.sparse used) o))
    (not_sparse (member_at (codes "sparse") d) a.sparse accessors.sparse.is none
    is.1.1.1.1.1.1.1.1.1.0)

accessors_quiet : (used : Names) (i : ℕ) (ds : Items) (all : List Accessor)
    → AllRead accessor.is ds all → none_is_sparse all ≡ true
    → Quiet (items_checks (parts.accessor used) i ds)
accessors_quiet used i no_items all are none path = refl
accessors_quiet used i (item d ds) [] are none path = absurd are
accessors_quiet used i (item d ds) (a ∷ all) are none path =
    let parts_ = and_parts (is_none a.sparse) (none_is_sparse all) none in
    quiet_both (At (numbered i) (parts.accessor used d)) (items_checks (parts.accessor used) (i + 1) ds)
    (λ p. accessor_quiet used d a are.0 parts_.0 (p ++ numbered i ∷ []))
    (accessors_quiet used (i + 1) ds all are.1 parts_.1) path

array_quiet : (used : Names) (e : Data) (all : List Accessor)
    → MatchOption (as_array e) ⊥ (λ ds. AllRead accessor.is ds all)
    → none_is_sparse all ≡ true → Quiet (each_checks parts.accessor used e)
array_quiet used null all are none path = refl
array_quiet used (boolean b) all are none path = refl
array_quiet used (number n) all are none path = refl
array_quiet used (string s) all are none path = refl
array_quiet used (array ds) all are none path = accessors_quiet used 0 ds all are none path
array_quiet used (object ms) all are none path = refl

member_quiet : (used : Names) (o : Option Data) (all : List Accessor)
    → MatchOption o (all ≡ [])
    (λ e. MatchOption (as_array e) ⊥ (λ ds. AllRead accessor.is ds all))
    → none_is_sparse all ≡ true → Quiet (optional_checks (each_checks parts.accessor used) o)
member_quiet used None all are none path = refl
member_quiet used (Some e) all are none path = array_quiet used e all are none path

module _ {T : Type 0} (P : Data → T → Type 0) (c : ChecksOf) where
  no_items_quiet : (used : Names) (ds : Items) (all : List T) → length all ≡ 0
      → AllRead P ds all → Quiet (items_checks (c used) 0 ds)
  no_items_quiet used no_items all none are path = refl
  no_items_quiet used (item d ds) [] none are path = absurd are
  no_items_quiet used (item d ds) (x ∷ all) none are path =
      let never : ⊥ = omega (arith, none) in absurd never

  no_array_quiet : (used : Names) (e : Data) (all : List T) → length all ≡ 0
      → MatchOption (as_array e) ⊥ (λ ds. AllRead P ds all) → Quiet (each_checks c used e)
  no_array_quiet used null all none are path = refl
  no_array_quiet used (boolean b) all none are path = refl
  no_array_quiet used (number n) all none are path = refl
  no_array_quiet used (string s) all none are path = refl
  no_array_quiet used (array ds) all none are path = no_items_quiet used ds all none are path
  no_array_quiet used (object ms) all none are path = refl

  no_member_quiet : (used : Names) (o : Option Data) (all : List T) → length all ≡ 0
      → MatchOption o (all ≡ []) (λ e. MatchOption (as_array e) ⊥ (λ ds. AllRead P ds all))
      → Quiet (optional_checks (each_checks c used) o)
  no_member_quiet used None all none are path = refl
  no_member_quiet used (Some e) all none are path = no_array_quiet used e all none are path

pub nothing_where_there_is_none : (d : Data) (r : Root) → root.is d r → has_none r ≡ true
    → FindsNothing d
unfolding root
nothing_where_there_is_none d r is none =
    let both_ =
    and_parts (length r.animations.items == 0) (none_is_sparse r.accessors.items) none in
    quiet_both (at_checks (codes "accessors") (each_checks parts.accessor) (declared_by d) d)
    (at_checks (codes "animations") (each_checks parts.animation) (declared_by d) d)
    (λ path. member_quiet (declared_by d) (member_at (codes "accessors") d) r.accessors.items
    is.1.1.0 both_.1 (path ++ named (codes "accessors") ∷ []))
    (λ path. no_member_quiet animation.is parts.animation (declared_by d)
    (member_at (codes "animations") d) r.animations.items (eqb-true (length r.animations.items) 0 both_.0)
    is.1.1.1.0 (path ++ named (codes "animations") ∷ [])) []
