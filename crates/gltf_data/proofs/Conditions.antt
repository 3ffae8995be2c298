-- Conditions that all hold, or the first that fails.
use Rattle.std.proofs.Common.{◌≡◌, List, [], ◌∷◌, ◌++◌, ◌∙◌, refl, sym, ap, inl, inr}
use Rattle.std.specs.Prelude.{Bool, true, false, ⊤, Result, Ok, Err, SomeIff, Some, None}
use Rattle.std.specs.Result.{result_ok, result_map_both}
use Rattle.std.proofs.lemmas.Bool.{cases_Bool}
use Rattle.gltf_data.specs.declared.unreadable.Unreadable.{Unreadable}
use Rattle.gltf_data.specs.Unreadable.{Condition, where_all_hold}

abbrev pub AllHold : List Condition → Type 0
AllHold [] = ⊤
AllHold (c ∷ cs) = (c.0 ≡ true) × AllHold cs

pub both_hold : (ls rs : List Condition) → AllHold ls → AllHold rs → AllHold (ls ++ rs)
both_hold [] rs h k = k
both_hold (l ∷ ls) rs h k = (h.0, both_hold ls rs h.1 k)

pub left_hold : (ls rs : List Condition) → AllHold (ls ++ rs) → AllHold ls
left_hold [] rs h = tt
left_hold (l ∷ ls) rs h = (h.0, left_hold ls rs h.1)

pub right_hold : (ls rs : List Condition) → AllHold (ls ++ rs) → AllHold rs
right_hold [] rs h = h
right_hold (l ∷ ls) rs h = right_hold ls rs h.1

module _ {X : Type 0} where
  -- where the first one holds, or fails
  pub passed : (c : Condition) (cs : List Condition) (x : X) → c.0 ≡ true
      → where_all_hold (c ∷ cs) x ≡ where_all_hold cs x
  passed c cs x h = rw h refl

  pub stopped : (c : Condition) (cs : List Condition) (x : X) → c.0 ≡ false
      → where_all_hold (c ∷ cs) x ≡ Err c.1
  stopped c cs x h = rw h refl

  pub held : (cs : List Condition) (x : X) → AllHold cs → where_all_hold cs x ≡ Ok x
  held [] x h = refl
  held (c ∷ cs) x h = passed c cs x h.0 ∙ held cs x h.1

  pub all_hold : (cs : List Condition) (x y : X) → where_all_hold cs x ≡ Ok y
      → AllHold cs × (y ≡ x)
  all_hold [] x y e = (tt, cc e)
  all_hold (c ∷ cs) x y e =
      elim (cases_Bool c.0) [
        | inl holds ↦
            let rest = all_hold cs x y (rw holds at e) in
            ((holds, rest.0), rest.1)
        | inr fails ↦
            let stops : where_all_hold (c ∷ cs) x ≡ Err c.1 = stopped c cs x fails in
            absurd (cc (e, stops))
      ]

  pub not_held : (cs : List Condition) (x : X) (e : Unreadable) → where_all_hold cs x ≡ Err e
      → ¬ (AllHold cs)
  not_held cs x e h all =
      let holds : where_all_hold cs x ≡ Ok x = held cs x all in
      cc (h, holds)

  pub skipped : (ls rs : List Condition) (x : X) → AllHold ls
      → where_all_hold (ls ++ rs) x ≡ where_all_hold rs x
  skipped [] rs x h = refl
  skipped (l ∷ ls) rs x h = passed l (ls ++ rs) x h.0 ∙ skipped ls rs x h.1

  -- what follows conditions that hold
  pub agree : (ls rs cs : List Condition) (x : X)
      → (AllHold ls → where_all_hold rs x ≡ where_all_hold cs x)
      → where_all_hold (ls ++ rs) x ≡ where_all_hold (ls ++ cs) x
  agree [] rs cs x h = h tt
  agree (l ∷ ls) rs cs x h =
      elim (cases_Bool l.0) [
        | inl holds ↦ rw holds (agree ls rs cs x (λ all. h (holds, all)))
        | inr fails ↦ rw fails refl
      ]

  pub same_where_held : (cs : List Condition) (x y : X) → (AllHold cs → x ≡ y)
      → where_all_hold cs x ≡ where_all_hold cs y
  same_where_held [] x y h = ap Ok (h tt)
  same_where_held (c ∷ cs) x y h =
      elim (cases_Bool c.0) [
        | inl holds ↦ rw holds (same_where_held cs x y (λ all. h (holds, all)))
        | inr fails ↦ rw fails refl
      ]

  pub some_where_held : {P : Type 0} (cs : List Condition) (x : X) (result : Result X Unreadable)
      → result ≡ where_all_hold cs x → (AllHold cs → P) → (P → AllHold cs)
      → SomeIff (result_ok result) P x
  some_where_held cs x (Ok y) e to from = let all = all_hold cs x y (sym e) in (to all.0, all.1)
  some_where_held cs x (Err f) e to from = λ p. not_held cs x f (sym e) (from p)

module _ {X Y : Type 0} where
  -- what the first that fails reports does not depend on what there would be
  pub stops_before : (ls rs : List Condition) (x : X) (y : Y) (e : Unreadable)
      → where_all_hold ls x ≡ Err e → where_all_hold (ls ++ rs) y ≡ Err e
  stops_before [] rs x y e h = absurd (cc h)
  stops_before (l ∷ ls) rs x y e h =
      elim (cases_Bool l.0) [
        | inl holds ↦ rw holds (stops_before ls rs x y e (rw holds at h))
        | inr fails ↦
            let stops : where_all_hold (l ∷ ls) x ≡ Err l.1 = stopped l ls x fails in
            let same : l.1 ≡ e = cc (h, stops) in
            rw fails (ap Err same)
      ]

  pub same_reason : (cs : List Condition) (x : X) (y : Y) (e : Unreadable)
      → where_all_hold cs x ≡ Err e → where_all_hold cs y ≡ Err e
  same_reason [] x y e h = absurd (cc h)
  same_reason (c ∷ cs) x y e h =
      elim (cases_Bool c.0) [
        | inl holds ↦ rw holds (same_reason cs x y e (rw holds at h))
        | inr fails ↦
            let stops : where_all_hold (c ∷ cs) x ≡ Err c.1 = stopped c cs x fails in
            let same : c.1 ≡ e = cc (h, stops) in
            rw fails (ap Err same)
      ]

  pub mapped : (f : X → Y) (cs : List Condition) (x : X)
      → result_map_both f (λ e. e) (where_all_hold cs x) ≡ where_all_hold cs (f x)
  mapped f [] x = refl
  mapped f (c ∷ cs) x =
      elim (cases_Bool c.0) [
        | inl holds ↦ rw holds (mapped f cs x)
        | inr fails ↦ rw fails refl
      ]
