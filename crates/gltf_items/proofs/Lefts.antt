-- What an `ItemIter` has left, in terms of its bytes.
use Rattle.std.proofs.Common.{◌≡◌, ℕ, ◌+◌, ◌-◌, ◌*◌, ◌/◌, ◌^◌, ◌<◌, ◌≤◌, min, List, [], length}
use Rattle.std.proofs.Common.{take, drop, Some, None, inl, inr, sym, ap, ◌∙◌, arith}
use Rattle.std.specs.Prelude.{slice_get}
use Rattle.std.proofs.lemmas.List.{drop_all, nil_from_length}
use Rattle.std.proofs.lemmas.Option.{slice_get_past}
use Rattle.std.proofs.lemmas.Bool.{cases_lt}
use Rattle.gltf_items.specs.Reading.{ReadsFront}
use Rattle.gltf_items.specs.ReadingLemmas.{longer_front}
use Rattle.gltf_items.specs.Plain.{plain}
use Rattle.gltf_items.proofs.PlainLemmas.{plain_within, plain_none, plain_some, slice_get-plain}
use Rattle.gltf_items.proofs.PlainLemmas.{drop-plain}
use Rattle.gltf_items.specs.ItemIter.{items_left}
use Rattle.gltf_items.specs.declared.item.Item.{Ghosts}
use Rattle.gltf_items.specs.declared.item_iter.ItemIter.{ItemIter}

module _ {X : Type 0} {g : Ghosts X} (it : ItemIter X g) (some : 0 < g.size) where
  pub left_within : (i : ℕ) → i < length (items_left it)
      → i * it.stride + g.size ≤ length it.bytes.now
  left_within i h = plain_within g.size g.value it.bytes.now it.stride i some it.apart h

  pub left_none : length it.bytes.now < g.size → length (items_left it) ≡ 0
  left_none h = plain_none g.size g.value it.bytes.now it.stride some it.apart h

  pub left_some : g.size ≤ length it.bytes.now
      → length (items_left it) ≡ (length it.bytes.now - g.size) / it.stride + 1
  left_some h = plain_some g.size g.value it.bytes.now it.stride some it.apart h

  pub slice_get-left : (i : ℕ) → i < length (items_left it)
      → slice_get (items_left it) i ≡ Some (g.value (drop (i * it.stride) it.bytes.now))
  slice_get-left i h = slice_get-plain g.size g.value it.bytes.now it.stride i h

  -- the first item is what the bytes spell
  pub first_left : g.size ≤ length it.bytes.now
      → slice_get (items_left it) 0 ≡ Some (g.value it.bytes.now)
  first_left h =
      let none : 0 * it.stride ≡ 0 = omega arith in
      slice_get-left 0 (omega (arith, left_some h))
      ∙ ap (λ (n : ℕ). Some (g.value (drop n it.bytes.now))) none

  pub no_first_left : length it.bytes.now < g.size → slice_get (items_left it) 0 ≡ None
  no_first_left h = slice_get_past (items_left it) 0 (omega (arith, left_none h))

  -- it is also what the first stride of bytes spells
  pub first_of_stride : (g.size < 2 ^ 64 - 1 → ReadsFront g.size g.value)
      → it.stride ≤ length it.bytes.now
      → slice_get (items_left it) 0 ≡ Some (g.value (take it.stride it.bytes.now))
  first_of_stride front h = first_left (omega (arith, it.apart))
      ∙ ap Some (sym (longer_front g.size it.stride g.value it.bytes.now
      (front it.fits) it.apart h))

  -- what is left after the first bytes
  pub left_behind : (n : ℕ) (bytes : List ℕ) → bytes ≡ drop (n * it.stride) it.bytes.now
      → plain g.size g.value bytes it.stride ≡ drop n (items_left it)
  left_behind n bytes is = ap (λ (bs : List ℕ). plain g.size g.value bs it.stride) is
      ∙ drop-plain g.size g.value it.bytes.now it.stride n some it.apart

  -- without bytes nothing is left
  pub left_past : (n : ℕ) → length it.bytes.now ≤ n * it.stride
      → plain g.size g.value [] it.stride ≡ drop n (items_left it)
  left_past n h = left_behind n [] (sym (drop_all (n * it.stride) it.bytes.now h))

  -- nor after so many strides that the number of their bytes is no `usize`
  pub left_behind_all : (n : ℕ) (bytes : List ℕ) → length it.bytes.now < 2 ^ 64
      → bytes ≡ drop (min (n * it.stride) (2 ^ 64 - 1)) it.bytes.now
      → plain g.size g.value bytes it.stride ≡ drop n (items_left it)
  left_behind_all n bytes few is =
      elim (cases_lt (n * it.stride) (2 ^ 64)) [
        | inl less ↦ let same : min (n * it.stride) (2 ^ 64 - 1) ≡ n * it.stride = omega arith in
            left_behind n bytes (rw same at is)
        | inr more ↦
            let none : bytes ≡ [] =
            is ∙ drop_all (min (n * it.stride) (2 ^ 64 - 1)) it.bytes.now (omega arith) in
            rw none (left_past n (omega arith))
      ]

  -- where no item is left, none is left after the first
  pub left_none_behind : length it.bytes.now < g.size → items_left it ≡ drop 1 (items_left it)
  left_none_behind h = nil_from_length (items_left it) (left_none h)
      ∙ sym (drop_all 1 (items_left it) (omega (arith, left_none h)))
