-- The items of what a set is imported as are those of the file.
use Rattle.std.proofs.Common.{◌≡◌, ℕ, List, Bool, true, false, Option, Some, None, refl, sym, subst}
use Rattle.std.proofs.Common.{slice_get, ◌∙◌}
use Rattle.std.specs.Prelude.{◌↔◌}
use Rattle.serde_json.specs.Data.{Data}
use Rattle.gltf_json.specs.declared.root.Root.{Root}
use Rattle.gltf_items.specs.declared.item.Item.{Ghosts}
use Rattle.gltf_data.specs.Documents.{ReadsAt}
use Rattle.gltf_detach.specs.Naming.{buffer_uris, image_uris}
use Rattle.gltf_detached.specs.Laws as detached
use Rattle.gltf_trimmed.specs.Laws.{IsReadOver, IsReadTrimmed}
use Rattle.gltf_trimmed.specs.Laws as trimmed
use Rattle.gltf_mend.specs.declared.mends.Mends.{Mends}
use Rattle.gltf_required.specs.Required.{mended_by, mends_of}
use Rattle.gltf_split.specs.Laws.{HasItsBuffers, KeepsItems}
use Rattle.gltf_split.specs.Splits.{bytes_of_parts, value_left, bytes_left}
use Rattle.gltf_split.proofs.Imported.{IsLeftOver, left_over, split_over, some_mends}

both : {A B C : Type 0} → A ↔ B → B ↔ C → A ↔ C
both one other = (λ x. other.0 (one.0 x), λ z. one.1 (other.1 z))

-- what is left of a document is read alike
kept_left : {X : Type 0} (t : Ghosts X) → trimmed.KeepsItems t → (read : IsReadTrimmed)
    (mends : Option Mends) (drop : Bool) (stands : drop ≡ true → mends ≡ None) (value : Data)
    (r : Root) (whole : List (List ℕ)) (over : IsReadOver (mended_by mends value) r whole)
    (index : ℕ) (result : Option (List X))
    → ReadsAt t r (slice_get whole) index result
    ↔ ReadsAt t (left_over read mends drop stands value r whole over).root_
    (slice_get (bytes_left drop value whole)) index result
kept_left t law read None true stands value r whole over index result =
    let left = left_over read None true stands value r whole over in
    law value r whole over left.root_ left.over.is index result
kept_left t law read (Some mends) true stands value r whole over index result =
    some_mends mends (stands refl)
kept_left t law read mends false stands value r whole over index result =
    (λ reads. reads, λ reads. reads)

pub keeps_items : {X : Type 0} (t : Ghosts X) → HasItsBuffers → IsReadTrimmed
    → trimmed.KeepsItems t → detached.KeepsItems t → KeepsItems t
keeps_items t own read law named required names path stem keep drop set is reading alike there
    holds s others accepts index result =
    let found = own required names path stem keep drop set is reading alike there holds s others
    accepts in
    let over = split_over required names path stem keep drop set is in
    let mends = mends_of required in
    let left = left_over read mends drop is.stands is.value is.root_ is.whole over in
    let all = bytes_left drop is.value is.whole in
    subst (λ (xs : List (List ℕ)).
    ReadsAt t is.root_ (slice_get is.whole) index result
    ↔ ReadsAt t s (slice_get xs) index result) (sym (found.1 ∙ is.bytes))
    (both
    (kept_left t law read mends drop is.stands is.value is.root_ is.whole over index result)
    (named (buffer_uris set.buffers.items) (image_uris set.images.items) left.root_ s
    (found.0 left.root_ left.over.is) (slice_get all) index result))
