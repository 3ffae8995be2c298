-- The checks by marks are those by the children that were named before.
use Rattle.std.proofs.Common.{◌≡◌, ◌<◌, ◌≤◌, ◌+◌, ℕ, Bool, true, false, ◌&&◌, ◌||◌, List, [], ◌∷◌}
use Rattle.std.proofs.Common.{◌++◌}
use Rattle.std.proofs.Common.{length, get_or, set, replicate, refl, sym, ◌∙◌, ap, arith}
use Rattle.std.proofs.Common.{append_assoc}
use Rattle.std.specs.Prelude.{nat_eq, nat_lt}
use Rattle.std.specs.List.{list_any}
use Rattle.std.proofs.lemmas.Grind.{get_or-set_at}
use Rattle.std.proofs.lemmas.List.{get_or-set_other, get_or-replicate, get_or_past}
use Rattle.std.proofs.lemmas.List.{length-set, length-replicate, append-nil}
use Rattle.std.proofs.lemmas.Bool.{eqb-true, eqb-false, ltb-true, ltb-false}
use Rattle.std.proofs.lemmas.List.Folds.{list_any-append}
use Rattle.gltf_json_scene.specs.declared.scene.Node.{Node}
use Rattle.gltf_inspect.specs.Marks.{marked, marked_children_checks}
use Rattle.gltf_inspect.specs.Marks.{marked_parents_checks}
use Rattle.gltf_inspect.specs.Parents.{is_named_before, children_checks, parents_checks}

-- the marks of what was named before
pub record AreMarks (count : ℕ) (before : List ℕ) (marks : List Bool) : Type 0 where
  pub len : length marks ≡ count
  pub each : (d : ℕ) → get_or marks d false ≡ is_named_before count before d

and_false : (b : Bool) → (b && false) ≡ false
and_false true = refl
and_false false = refl

nothing : (n d : ℕ) (b : Bool) → nat_lt d n ≡ b → get_or (replicate n false) d false ≡ false
nothing n d true e = get_or-replicate n d false false (ltb-true d n e)
nothing n d false e =
    let past : length (replicate n false) ≤ d = rw (length-replicate n false) (ltb-false d n e) in
    get_or_past (replicate n false) d false past

pub none-marked : (count : ℕ) → AreMarks count [] (replicate count false)
none-marked count = record {
  len = length-replicate count false;
  each = λ d. nothing count d (nat_lt d count) refl ∙ sym (and_false (nat_lt d count));
}

is_now : (count : ℕ) (before : List ℕ) (marks : List Bool) (c d : ℕ) (b : Bool)
    → length marks ≡ count → nat_lt d count ≡ b → d ≡ c
    → get_or (set marks c true) d false ≡ b
is_now count before marks c d true len e same =
    get_or-set_at marks c d true false same
    (let below : d < count = ltb-true d count e in omega arith)
is_now count before marks c d false len e same =
    let past : length (set marks c true) ≤ d =
    rw (length-set marks c true, len) (ltb-false d count e) in
    get_or_past (set marks c true) d false past

or_true : (b : Bool) → (b || true) ≡ true
or_true true = refl
or_true false = refl

or_false : (b : Bool) → (b || false) ≡ b
or_false true = refl
or_false false = refl

and_true : (b : Bool) → (b && true) ≡ b
and_true true = refl
and_true false = refl

step : (count : ℕ) (before : List ℕ) (marks : List Bool) (c d : ℕ) (b : Bool)
    → AreMarks count before marks → nat_eq d c ≡ b
    → get_or (set marks c true) d false
    ≡ (nat_lt d count && (list_any (nat_eq d) before || b))
step count before marks c d true h e =
    is_now count before marks c d (nat_lt d count) h.len refl (eqb-true d c e)
    ∙ sym (ap (λ x. nat_lt d count && x) (or_true (list_any (nat_eq d) before))
    ∙ and_true (nat_lt d count))
step count before marks c d false h e =
    get_or-set_other marks c d true false (eqb-false d c e)
    ∙ h.each d
    ∙ sym (ap (λ x. nat_lt d count && x) (or_false (list_any (nat_eq d) before)))

one : (d c : ℕ) → list_any (nat_eq d) (c ∷ []) ≡ nat_eq d c
one d c = or_false (nat_eq d c)

pub one-more : (count : ℕ) (before : List ℕ) (marks : List Bool) (c : ℕ)
    → AreMarks count before marks → AreMarks count (before ++ c ∷ []) (set marks c true)
one-more count before marks c h = record {
  len = length-set marks c true ∙ h.len;
  each = λ d.
      step count before marks c d (nat_eq d c) h refl
      ∙ ap (λ x. nat_lt d count && x) (sym (
      list_any-append (nat_eq d) before (c ∷ [])
      ∙ ap (λ x. list_any (nat_eq d) before || x) (one d c)));
}

-- marking the children one by one
pub more : (count : ℕ) (before : List ℕ) (marks : List Bool) (children : List ℕ)
    → AreMarks count before marks → AreMarks count (before ++ children) (marked marks children)
more count before marks [] h = rw (append-nil before) h
more count before marks (c ∷ cs) h =
    rw (← append_assoc before (c ∷ []) cs)
    (more count (before ++ c ∷ []) (set marks c true) cs (one-more count before marks c h))

pub same_children : (count : ℕ) (before : List ℕ) (marks : List Bool) (k : ℕ) (children : List ℕ)
    → AreMarks count before marks
    → marked_children_checks marks k children ≡ children_checks count before k children
same_children count before marks k [] h = refl
same_children count before marks k (c ∷ cs) h =
    rw (
      h.each c,
      same_children count (before ++ c ∷ []) (set marks c true) (k + 1) cs
          (one-more count before marks c h),
    ) refl

pub same_parents : (count : ℕ) (before : List ℕ) (marks : List Bool) (i : ℕ) (nodes : List Node)
    → AreMarks count before marks
    → marked_parents_checks marks i nodes ≡ parents_checks count before i nodes
same_parents count before marks i [] h = refl
same_parents count before marks i (n ∷ ns) h =
    rw (
      same_children count before marks 0 n.children.items h,
      same_parents count (before ++ n.children.items) (marked marks n.children.items) (i + 1) ns
          (more count before marks n.children.items h),
    ) refl
