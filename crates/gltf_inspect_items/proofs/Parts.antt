-- The items of a part by itself are those at its addresses, where its conditions hold.
use Rattle.std.proofs.Common.{◌≡◌, ℕ, ◌+◌, ◌-◌, ◌*◌, ◌<◌, ◌≤◌, Bool, true, false, ◌&&◌, List, length}
use Rattle.std.proofs.Common.{map, take, drop, Option, Some, None, refl, sym, ap, ◌∙◌, arith}
use Rattle.std.specs.Prelude.{nat_lt, nat_le, cond}
use Rattle.std.specs.List.{range_with_len}
use Rattle.std.proofs.lemmas.Bool.{and_parts, ltb-true, leb-true}
use Rattle.std.proofs.lemmas.List.FromFn.{length-map-range_with_len}
use Rattle.gltf_items.specs.Plain.{plain}
use Rattle.gltf_data.specs.Answers.{answer_for}
use Rattle.gltf_data.specs.Parts.{Part, stride, view_offset, addressed, items_in, part_items}
use Rattle.gltf_data.specs.Unreadable.{bytes_in, items_end}
use Rattle.gltf_inspect_items.specs.Parts.{fits, cut, given, part_given}
use Rattle.gltf_inspect_items.specs.Reading.{Bytes}

-- where bytes begin with the first of some items and end with the last one, these are all items
-- there
abbrev pub ItemsOfACut : {X : Type 0} → ℕ → (List ℕ → X) → Type 0
ItemsOfACut size value = (bytes : List ℕ) (stride start count : ℕ) → size ≤ stride → 0 < count
    → start + (stride * (count - 1) + size) ≤ length bytes
    → plain size value (take (stride * (count - 1) + size) (drop start bytes)) stride
    ≡ map (λ i. value (drop (start + i * stride) bytes)) (range_with_len 0 count)

module _ {X : Type 0} (value : List ℕ → X) (p : Part) (bytes : List ℕ) where
  at_addresses : fits p (length bytes) ≡ true → ItemsOfACut p.size value
      → plain p.size value (bytes_in p (Some bytes)) (stride p.view p.size)
      ≡ addressed value p bytes
  unfolding addressed
  at_addresses holds law =
      let some = nat_lt 0 p.count in
      let apart = nat_le p.size (stride p.view p.size) in
      let within = nat_le (view_offset p.view + p.view.byte_length) (length bytes) in
      let ends = nat_le (items_end p) p.view.byte_length in
      let all = and_parts ((some && apart) && within) ends holds in
      let three = and_parts (some && apart) within all.0 in
      let two = and_parts some apart three.0 in
      let there : 0 < p.count = ltb-true 0 p.count two.0 in
      let wide : p.size ≤ stride p.view p.size = leb-true p.size (stride p.view p.size) two.1 in
      let view_there : view_offset p.view + p.view.byte_length ≤ length bytes =
      leb-true (view_offset p.view + p.view.byte_length) (length bytes) three.1 in
      let items_there : items_end p ≤ p.view.byte_length =
      leb-true (items_end p) p.view.byte_length all.1 in
      let room : view_offset p.view + p.offset + (stride p.view p.size * (p.count - 1) + p.size)
      ≤ length bytes = omega arith in
      law bytes (stride p.view p.size) (view_offset p.view + p.offset) p.count wide there room

  -- what stands in the bytes that are cut out, where they are, is what is given
  given_by : (holds : Bool) → fits p (length bytes) ≡ holds → (c : List ℕ)
      → cond holds (Some (bytes_in p (Some bytes))) None ≡ Some c → ItemsOfACut p.size value
      → Some (plain p.size value c (stride p.view p.size))
      ≡ cond holds (Some (addressed value p bytes)) None
  given_by true is c cut_out law =
      let same : bytes_in p (Some bytes) ≡ c = cc in
      ap Some (ap (λ (bs : List ℕ). plain p.size value bs (stride p.view p.size)) (sym same)
      ∙ at_addresses is law)
  given_by false is c cut_out law = cc

  given_of_cut : (c : List ℕ) → cut p bytes ≡ Some c → ItemsOfACut p.size value
      → Some (plain p.size value c (stride p.view p.size)) ≡ given value p (Some bytes)
  given_of_cut c cut_out law = given_by (fits p (length bytes)) refl c cut_out law

  pub given_back : (c : List ℕ) (xs : List X) → cut p bytes ≡ Some c → ItemsOfACut p.size value
      → xs ≡ plain p.size value c (stride p.view p.size) → Some xs ≡ given value p (Some bytes)
  given_back c xs cut_out law is = ap Some is ∙ given_of_cut c cut_out law

  none_by : (holds : Bool) → cond holds (Some (bytes_in p (Some bytes))) None ≡ None
      → None ≡ cond holds (Some (addressed value p bytes)) None
  none_by true cut_out = cc
  none_by false cut_out = refl

  pub none_of_cut : cut p bytes ≡ None → None ≡ given value p (Some bytes)
  none_of_cut cut_out = none_by (fits p (length bytes)) cut_out

  given_at : (holds : Bool) (xs : List X)
      → cond holds (Some (addressed value p bytes)) None ≡ Some xs
      → xs ≡ addressed value p bytes
  given_at true xs is = cc
  given_at false xs is = cc

of_buffer : {X : Type 0} (value : List ℕ → X) (p : Part) (o : Option (List ℕ)) (xs : List X)
    → given value p o ≡ Some xs → xs ≡ items_in value p o
of_buffer value p None xs is = cc
of_buffer value p (Some bytes) xs is = given_at value p bytes (fits p (length bytes)) xs is

-- what is given of a part are its items
pub given_items : {X : Type 0} (value : List ℕ → X) (part : Option Part) (bytes : Bytes)
    (xs : List X) → part_given value part bytes ≡ Some xs
    → xs ≡ part_items value part (answer_for bytes part)
given_items value None bytes xs is = cc
given_items value (Some p) bytes xs is = of_buffer value p (bytes p.view.buffer) xs is

-- there are as many as are counted, where some are given
pub given_length : {X : Type 0} (value : List ℕ → X) (p : Part) (o : Option (List ℕ)) (xs : List X)
    → given value p o ≡ Some xs → length (items_in value p o) ≡ p.count
unfolding addressed
given_length value p None xs is = cc
given_length value p (Some bytes) xs is = length-map-range_with_len _ 0 p.count

-- and never more
pub few_items : {X : Type 0} (value : List ℕ → X) (p : Part) (o : Option (List ℕ))
    → length (items_in value p o) ≤ p.count
unfolding addressed
few_items value p None = omega arith
few_items value p (Some bytes) = omega (
  arith,
  length-map-range_with_len
      (λ i. value (drop (view_offset p.view + p.offset + i * stride p.view p.size) bytes)) 0 p.count,
)
