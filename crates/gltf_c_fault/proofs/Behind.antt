-- Text that was written behind a text at the front of a room.
use Rattle.std.proofs.Common.{◌≡◌, ℕ, suc, ◌+◌, ◌-◌, ◌<◌, min, List, []}
use Rattle.std.proofs.Common.{◌∷◌, ◌++◌, length, take, drop, refl, sym, ap, subst}
use Rattle.std.proofs.Common.{◌∙◌, arith, length-append, append-nil, take_all}
use Rattle.std.proofs.Common.{drop_of_length-le}
use Rattle.std.proofs.lemmas.List.{length-drop}
use Rattle.gltf_c_fault.specs.Message.{shown_length, text_in_room}

-- one byte more in front
one_more : (c x y : ℕ) (text room : List ℕ)
    → text_in_room (c ∷ text) (x ∷ y ∷ room) ≡ c ∷ text_in_room text (y ∷ room)
one_more c x y text room =
    let count : shown_length (c ∷ text) (x ∷ y ∷ room)
    ≡ suc (shown_length text (y ∷ room)) = omega arith in
    subst (λ (k : ℕ). take k (c ∷ text) ++ (0 ∷ drop (suc k) (x ∷ y ∷ room))
    ≡ c ∷ text_in_room text (y ∷ room)) (sym count) refl

-- a room of one byte has no text
single : (x : ℕ) (text : List ℕ) → text_in_room text (x ∷ []) ≡ 0 ∷ []
single x text =
    let count : shown_length text (x ∷ []) ≡ 0 = omega arith in
    subst (λ (k : ℕ). take k text ++ (0 ∷ drop (suc k) (x ∷ [])) ≡ 0 ∷ [])
    (sym count) refl

-- with no text there is a zero byte in front
empty : (x : ℕ) (room : List ℕ) → text_in_room [] (x ∷ room) ≡ 0 ∷ room
empty x room =
    let count : shown_length [] (x ∷ room) ≡ 0 = omega arith in
    subst (λ (k : ℕ). take k [] ++ (0 ∷ drop (suc k) (x ∷ room)) ≡ 0 ∷ room)
    (sym count) refl

at_zero : (n : ℕ) (r s more whole : List ℕ) → n ≡ 0 → r ≡ s
    → text_in_room more s ≡ whole → take n r ++ text_in_room more (drop n r) ≡ whole
at_zero n r s more whole none is written = rw (none, is) written

at_next : (n m c : ℕ) (r s more rest whole : List ℕ) → n ≡ suc m → r ≡ c ∷ s
    → take m s ++ text_in_room more (drop m s) ≡ rest → whole ≡ c ∷ rest
    → take n r ++ text_in_room more (drop n r) ≡ whole
at_next n m c r s more rest whole next is written all =
    rw (next, is, all) (ap (λ (l : List ℕ). c ∷ l) written)

-- what is written from the zero byte on is behind the text
pub is_behind : (text more room : List ℕ)
    → take (shown_length text room) (text_in_room text room)
    ++ text_in_room more (drop (shown_length text room) (text_in_room text room))
    ≡ text_in_room (text ++ more) room
is_behind text more [] =
    at_zero (shown_length text []) [] [] more [] (omega arith) refl refl
is_behind text more (x ∷ []) =
    at_zero (shown_length text (x ∷ [])) (text_in_room text (x ∷ [])) (0 ∷ []) more
    (text_in_room (text ++ more) (x ∷ [])) (omega arith) (single x text)
    (single 0 more ∙ sym (single x (text ++ more)))
is_behind [] more (x ∷ y ∷ room) =
    at_zero (shown_length [] (x ∷ y ∷ room)) (text_in_room [] (x ∷ y ∷ room))
    (0 ∷ y ∷ room) more (text_in_room more (x ∷ y ∷ room)) (omega arith)
    (empty x (y ∷ room)) refl
is_behind (c ∷ text) more (x ∷ y ∷ room) =
    at_next (shown_length (c ∷ text) (x ∷ y ∷ room)) (shown_length text (y ∷ room)) c
    (text_in_room (c ∷ text) (x ∷ y ∷ room)) (text_in_room text (y ∷ room)) more
    (text_in_room (text ++ more) (y ∷ room))
    (text_in_room (c ∷ (text ++ more)) (x ∷ y ∷ room))
    (omega arith) (one_more c x y text room) (is_behind text more (y ∷ room))
    (one_more c x y (text ++ more) room)

-- a room keeps its length
pub length_in_room : (text room : List ℕ) → length (text_in_room text room) ≡ length room
length_in_room text [] = refl
length_in_room text (x ∷ []) = ap length (single x text)
length_in_room [] (x ∷ y ∷ room) = ap length (empty x (y ∷ room))
length_in_room (c ∷ text) (x ∷ y ∷ room) =
    ap length (one_more c x y text room) ∙ ap suc (length_in_room text (y ∷ room))

-- what is left of the room from the zero byte on
abbrev rest_of : ℕ → List ℕ → List ℕ
rest_of used old = take (length old - used) (drop used old)

-- after that it has both texts, and so many bytes of them have room
pub put_behind : (text more room old new : List ℕ) (used long : ℕ)
    → old ≡ text_in_room text room → used ≡ shown_length text room → used < length old
    → new ≡ text_in_room more (rest_of used old)
    → long ≡ min (length more) (length new - 1)
    → (take used old ++ (new ++ drop (length old - used) (drop used old))
    ≡ text_in_room (text ++ more) room)
    × (used + long ≡ shown_length (text ++ more) room)
put_behind text more room old new used long is count fits written longer =
    let all = length-append text more in
    let size = ap length is ∙ length_in_room text room in
    let left = length-drop used old in
    let whole : rest_of used old ≡ drop used old =
    take_all (length old - used) (drop used old) (omega (arith, left)) in
    let none : drop (length old - used) (drop used old) ≡ [] =
    drop_of_length-le (drop used old) {i = length old - used} (omega (arith, left)) in
    let room_left = ap length written ∙ length_in_room more (rest_of used old)
    ∙ ap length whole in (
      rw (none, append-nil new, written, whole, is, count) (is_behind text more room),
      omega (arith, count, longer, all, size, left, fits, room_left),
    )
