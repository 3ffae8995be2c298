-- What marks say: they are of what was named.
use Rattle.std.proofs.Common.{◌≡◌, ◌<◌, ◌≤◌, ◌+◌, ℕ, Bool, true, false, ◌&&◌, ◌||◌, List, [], ◌∷◌}
use Rattle.std.proofs.Common.{◌++◌}
use Rattle.std.proofs.Common.{map, length, get_or, set, replicate, refl, sym, ◌∙◌, ap, arith}
use Rattle.std.proofs.Common.{append_assoc}
use Rattle.std.specs.Prelude.{nat_eq, nat_lt}
use Rattle.std.specs.List.{list_any}
use Rattle.std.proofs.lemmas.Grind.{get_or-set_at}
use Rattle.std.proofs.lemmas.List.{get_or-set_other, get_or-replicate, get_or_past}
use Rattle.std.proofs.lemmas.List.{length-set, length-replicate, append-nil}
use Rattle.std.proofs.lemmas.Bool.{eqb-true, eqb-false, ltb-true, ltb-false}
use Rattle.std.proofs.lemmas.List.Folds.{list_any-append}
use Rattle.gltf_json_scene.specs.declared.scene.Node.{Node}
use Rattle.gltf_json_scene.specs.declared.scene.Scene.{Scene}
use Rattle.gltf_findings.specs.Checks.{Checks, list_checks, elements_checks}
use Rattle.gltf_inspect_nodes.specs.Named.{all_named}
use Rattle.gltf_inspect_nodes.specs.Graphs.{root_checks, scene_checks, empty_checks, unique_checks}
use Rattle.gltf_inspect_nodes.specs.Marks.{is_marked, marked, keyed, cleared, marked_all, AreMarks}
use Rattle.gltf_inspect_nodes.specs.Marks.{marked_unique_checks}

and_false : (b : Bool) → (b && false) ≡ false
and_false true = refl
and_false false = refl

and_true : (b : Bool) → (b && true) ≡ b
and_true true = refl
and_true false = refl

or_true : (b : Bool) → (b || true) ≡ true
or_true true = refl
or_true false = refl

or_false : (b : Bool) → (b || false) ≡ b
or_false true = refl
or_false false = refl

-- ---- no marks

nothing : (n d : ℕ) (b : Bool) → nat_lt d n ≡ b → get_or (replicate n false) d false ≡ false
nothing n d true e = get_or-replicate n d false false (ltb-true d n e)
nothing n d false e =
    let past : length (replicate n false) ≤ d = rw (length-replicate n false) (ltb-false d n e) in
    get_or_past (replicate n false) d false past

pub none-marked : (count : ℕ) → AreMarks count [] (replicate count false)
none-marked count = record {
  len = length-replicate count false;
  each = λ d. nothing count d (nat_lt d count) refl ∙ sym (and_false (nat_lt d count));
}

-- ---- one more mark

is_now : (count : ℕ) (marks : List Bool) (c d : ℕ) (b : Bool)
    → length marks ≡ count → nat_lt d count ≡ b → d ≡ c
    → get_or (set marks c true) d false ≡ b
is_now count marks c d true len e same =
    get_or-set_at marks c d true false same
    (let below : d < count = ltb-true d count e in omega arith)
is_now count marks c d false len e same =
    let past : length (set marks c true) ≤ d =
    rw (length-set marks c true, len) (ltb-false d count e) in
    get_or_past (set marks c true) d false past

step : (count : ℕ) (named : List ℕ) (marks : List Bool) (c d : ℕ) (b : Bool)
    → AreMarks count named marks → nat_eq d c ≡ b
    → get_or (set marks c true) d false ≡ (nat_lt d count && (list_any (nat_eq d) named || b))
step count named marks c d true h e =
    is_now count marks c d (nat_lt d count) h.len refl (eqb-true d c e)
    ∙ sym (ap (λ x. nat_lt d count && x) (or_true (list_any (nat_eq d) named))
    ∙ and_true (nat_lt d count))
step count named marks c d false h e =
    get_or-set_other marks c d true false (eqb-false d c e)
    ∙ h.each d
    ∙ sym (ap (λ x. nat_lt d count && x) (or_false (list_any (nat_eq d) named)))

pub one-more : (count : ℕ) (named : List ℕ) (marks : List Bool) (c : ℕ)
    → AreMarks count named marks → AreMarks count (named ++ c ∷ []) (set marks c true)
one-more count named marks c h = record {
  len = length-set marks c true ∙ h.len;
  each = λ d.
      step count named marks c d (nat_eq d c) h refl
      ∙ ap (λ x. nat_lt d count && x) (sym (
      list_any-append (nat_eq d) named (c ∷ [])
      ∙ ap (λ x. list_any (nat_eq d) named || x) (or_false (nat_eq d c))));
}

-- marking them one by one
pub more : (count : ℕ) (named : List ℕ) (marks : List Bool) (ks : List ℕ)
    → AreMarks count named marks → AreMarks count (named ++ ks) (marked marks ks)
more count named marks [] h = rw (append-nil named) h
more count named marks (c ∷ cs) h =
    rw (← append_assoc named (c ∷ []) cs)
    (more count (named ++ c ∷ []) (set marks c true) cs (one-more count named marks c h))

pub all_more : {T : Type 0} (f : T → List ℕ) (count : ℕ) (named : List ℕ) (marks : List Bool)
    (xs : List T) → AreMarks count named marks
    → AreMarks count (named ++ all_named f xs) (marked_all f marks xs)
all_more f count named marks [] h = rw (append-nil named) h
all_more f count named marks (x ∷ xs) h =
    rw (← append_assoc named (f x) (all_named f xs))
    (all_more f count (named ++ f x) (marked marks (f x)) xs (more count named marks (f x) h))

-- marking numbers one by one
more_keyed : {T : Type 0} (key : T → ℕ) (count : ℕ) (named : List ℕ) (marks : List Bool)
    (xs : List T) → AreMarks count named marks
    → AreMarks count (named ++ map key xs) (keyed key marks xs)
more_keyed key count named marks [] h = rw (append-nil named) h
more_keyed key count named marks (x ∷ xs) h =
    rw (← append_assoc named (key x ∷ []) (map key xs))
    (more_keyed key count (named ++ key x ∷ []) (set marks (key x) true) xs
    (one-more count named marks (key x) h))

-- ---- no more marks

cleared_one : (count : ℕ) (marks : List Bool) (c d : ℕ) (b : Bool) → nat_eq d c ≡ b
    → (b ≡ false → is_marked marks d ≡ false) → is_marked (set marks c false) d ≡ false
cleared_one count marks c d true e rest = gone (nat_lt d (length marks)) refl
  where
    gone : (b : Bool) → nat_lt d (length marks) ≡ b → is_marked (set marks c false) d ≡ false
    gone true l =
        let same : d ≡ c = eqb-true d c e in
        let below : d < length marks = ltb-true d (length marks) l in
        get_or-set_at marks c d false false same (omega (arith, same, below))
    gone false l =
        let past : length (set marks c false) ≤ d =
        rw (length-set marks c false) (ltb-false d (length marks) l) in
        get_or_past (set marks c false) d false past
cleared_one count marks c d false e rest =
    get_or-set_other marks c d false false (eqb-false d c e) ∙ rest refl

or_left : (a b : Bool) → a ≡ false → b ≡ false → (a || b) ≡ false
or_left false b p q = q
or_left true b p q = p

gone : {T : Type 0} (key : T → ℕ) (count : ℕ) (marks : List Bool) (xs : List T)
    → length marks ≡ count
    → ((d : ℕ) → list_any (nat_eq d) (map key xs) ≡ false → is_marked marks d ≡ false)
    → (length (cleared key marks xs) ≡ count)
    × ((d : ℕ) → is_marked (cleared key marks xs) d ≡ false)
gone key count marks [] len rest = (len, λ d. rest d refl)
gone key count marks (x ∷ xs) len rest =
    gone key count (set marks (key x) false) xs (length-set marks (key x) false ∙ len) (λ d no.
    cleared_one count marks (key x) d (nat_eq d (key x)) refl
    (λ other. rest d (or_left (nat_eq d (key x)) (list_any (nat_eq d) (map key xs)) other no)))

and_no : (a b : Bool) → b ≡ false → (a && b) ≡ false
and_no true b e = e
and_no false b e = refl

pub cleared_again : {T : Type 0} (key : T → ℕ) (count : ℕ) (marks : List Bool) (xs : List T)
    → AreMarks count [] marks → AreMarks count [] (cleared key (keyed key marks xs) xs)
cleared_again key count marks xs h =
    let now = more_keyed key count [] marks xs h in
    let then_ = gone key count (keyed key marks xs) xs now.len
    (λ d no. now.each d ∙ and_no (nat_lt d count) (list_any (nat_eq d) (map key xs)) no) in
    record {
      len = then_.0;
      each = λ d. then_.1 d ∙ sym (and_false (nat_lt d count));
    }

-- ---- checks by marks

pub same_unique : {T : Type 0} (key : T → ℕ) (told : Bool → Checks) (count : ℕ) (named : List ℕ)
    (marks : List Bool) (k : ℕ) (xs : List T) → AreMarks count named marks
    → marked_unique_checks key told marks k xs ≡ unique_checks key told count named k xs
same_unique key told count named marks k [] h = refl
same_unique key told count named marks k (x ∷ xs) h =
    rw (
      h.each (key x),
      same_unique key told count (named ++ key x ∷ []) (set marks (key x) true) (k + 1) xs
          (one-more count named marks (key x) h),
    ) refl

same_roots : (f g : ℕ → Bool) (i : ℕ) (ns : List ℕ) → ((k : ℕ) → f k ≡ g k)
    → elements_checks (root_checks f) i ns ≡ elements_checks (root_checks g) i ns
same_roots f g i [] same = refl
same_roots f g i (n ∷ ns) same = rw (same n, same_roots f g (i + 1) ns same) refl

same_scenes_from : (f g : ℕ → Bool) (i : ℕ) (ss : List Scene) → ((k : ℕ) → f k ≡ g k)
    → elements_checks (scene_checks f) i ss ≡ elements_checks (scene_checks g) i ss
same_scenes_from f g i [] same = refl
same_scenes_from f g i (s ∷ ss) same =
    rw (same_roots f g 0 s.nodes.items same, same_scenes_from f g (i + 1) ss same) refl

pub same_scenes : (f g : ℕ → Bool) (ss : List Scene) → ((k : ℕ) → f k ≡ g k)
    → list_checks (scene_checks f) ss ≡ list_checks (scene_checks g) ss
same_scenes f g ss same = same_scenes_from f g 0 ss same

pub same_empty : (f g : ℕ → Bool) (i : ℕ) (ns : List Node) → ((k : ℕ) → f k ≡ g k)
    → empty_checks f i ns ≡ empty_checks g i ns
same_empty f g i [] same = refl
same_empty f g i (n ∷ ns) same = rw (same i, same_empty f g (i + 1) ns same) refl
