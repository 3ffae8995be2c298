-- Text for C, in a room that it gave.
use Rattle.std.specs.Prelude.{◌≡◌, ◌⊎◌, ℕ, suc, ◌-◌, min, List, [], ◌∷◌}
use Rattle.std.specs.Prelude.{◌++◌, length, take, drop, IfSome, codes}
use Rattle.gltf_glb.specs.Texts.{error_text}
use Rattle.gltf_glb.specs.declared.error.Error.{Error}

-- so many bytes of a text have room before a zero byte
abbrev pub shown_length : List ℕ → List ℕ → ℕ
shown_length text room = min (length text) (length room - 1)

-- the room with the text at its front, cut to fit, and a zero byte after the text; what follows
-- that stays
abbrev pub text_in_room : List ℕ → List ℕ → List ℕ
text_in_room text [] = []
text_in_room text (x ∷ room) =
    take (shown_length text (x ∷ room)) text
    ++ (0 ∷ drop (suc (shown_length text (x ∷ room))) (x ∷ room))

-- where a text is at the front of a room, of which so many bytes have room, it is there with more
-- text behind it now; whatever text that is, and whatever was in the room before it
abbrev pub Appends : List ℕ → List ℕ → ℕ → List ℕ → ℕ → Type 0
Appends more old used new used' =
    (text room : List ℕ) → old ≡ text_in_room text room → used ≡ shown_length text room
    → (new ≡ text_in_room (text ++ more) room) × (used' ≡ shown_length (text ++ more) room)

abbrev pub no_memory_for_text : List ℕ
no_memory_for_text = codes "there is no memory for the message"

-- the message of an error: its text, where one is known of it, or that there was no memory for that
pub record Tells (e : Error) (old new : List ℕ) : Type 0 where
  pub text : List ℕ
  pub is_text : IfSome (error_text e) (λ known. text ≡ known) ⊎ (text ≡ no_memory_for_text)
  pub written : new ≡ text_in_room text old
