-- A part that was read, or not: the items of the bytes that are cut out are those at the addresses.
use Rattle.std.proofs.Common.{◌≡◌, ℕ, ◌+◌, ◌-◌, ◌*◌, ◌<◌, ◌≤◌, List, length, map, take, drop, ap}
use Rattle.std.proofs.Common.{◌∙◌, sym, arith}
use Rattle.std.specs.Prelude.{Option, Some, None, Result, Ok, Err}
use Rattle.std.specs.Option.{option_copied}
use Rattle.std.specs.Borrow.{Bor}
use Rattle.gltf_items.specs.Plain.{plain}
use Rattle.std.specs.List.{range_with_len}
use Rattle.gltf_json.specs.declared.root.Root.{Root}
use Rattle.gltf_data.specs.Parts.{Part, FitsIn, stride, view_offset, addressed, items_in}
use Rattle.gltf_data.specs.Parts.{part_items}
use Rattle.gltf_data.specs.declared.unreadable.Part as part
use Rattle.gltf_data.specs.declared.unreadable.Unreadable.{Unreadable}
use Rattle.gltf_data.specs.Unreadable.{where_all_hold, part_conditions, viewed_conditions, bytes_in}
use Rattle.gltf_data.specs.Answers.{Results, IsAnswered, ReadsAny}
use Rattle.gltf_data.proofs.Conditions.{all_hold, held, same_reason}
use Rattle.gltf_data.proofs.Readables.{part_fits}

-- where bytes begin with the first of some items and end with the last one, these are all items
-- there
abbrev ItemsOfACut : {X : Type 0} → ℕ → (List ℕ → X) → Type 0
ItemsOfACut size value = (bytes : List ℕ) (stride start count : ℕ) → size ≤ stride → 0 < count
    → start + (stride * (count - 1) + size) ≤ length bytes
    → plain size value (take (stride * (count - 1) + size) (drop start bytes)) stride
    ≡ map (λ i. value (drop (start + i * stride) bytes)) (range_with_len 0 count)

items_cut : {X : Type 0} (value : List ℕ → X) (p : Part) (given : Option (List ℕ))
    → FitsIn p given → ItemsOfACut p.size value
    → plain p.size value (bytes_in p given) (stride p.view p.size) ≡ items_in value p given
unfolding addressed
items_cut value p None fits law = absurd fits
items_cut value p (Some bytes) fits law =
    let room : view_offset p.view + p.offset + (stride p.view p.size * (p.count - 1) + p.size)
    ≤ length bytes = omega (arith, fits.view_within, fits.items_within) in
    law bytes (stride p.view p.size)
    (view_offset p.view + p.offset) p.count fits.apart fits.some room

module _ {X : Type 0} {Gives : Results} {r : Root} (value : List ℕ → X) {p : Part}
    (which : part.Part) where
  pub reads_nothing : (given : Option (Bor (List ℕ))) (e : Unreadable)
      {result : Result (List X) Unreadable}
      → IsAnswered Gives r p.view.buffer (option_copied given)
      → where_all_hold (part_conditions which p (option_copied given))
      (bytes_in p (option_copied given)) ≡ Err e → result ≡ Err e
      → ReadsAny Gives r (Some p) (viewed_conditions which (Some p)) (part_items value (Some p))
      result
  reads_nothing given e asked stops is = record {
    answer = option_copied given;
    answered = asked;
    outcome =
        is ∙ sym (same_reason (part_conditions which p (option_copied given))
        (bytes_in p (option_copied given)) (items_in value p (option_copied given)) e stops);
  }

  pub reads_items : (cut : List ℕ) (given : Option (Bor (List ℕ)))
      {result : Result (List X) Unreadable}
      → IsAnswered Gives r p.view.buffer (option_copied given)
      → where_all_hold (part_conditions which p (option_copied given))
      (bytes_in p (option_copied given)) ≡ Ok cut → ItemsOfACut p.size value
      → result ≡ Ok (plain p.size value cut (stride p.view p.size))
      → ReadsAny Gives r (Some p) (viewed_conditions which (Some p)) (part_items value (Some p))
      result
  reads_items cut given asked holds law is =
      let bytes = option_copied given in
      let all = all_hold (part_conditions which p bytes) (bytes_in p bytes) cut holds in
      let same : plain p.size value cut (stride p.view p.size) ≡ items_in value p bytes =
      ap (λ (bs : List ℕ). plain p.size value bs (stride p.view p.size)) all.1
      ∙ items_cut value p bytes (part_fits which p bytes all.0) law in
      record {
        answer = bytes;
        answered = asked;
        outcome =
            is ∙ ap Ok same
            ∙ sym (held (part_conditions which p bytes) (items_in value p bytes) all.0);
      }
