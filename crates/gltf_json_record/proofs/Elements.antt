-- Arrays beside the lists that were read from them, one element after the other.
use Rattle.std.proofs.Common.{◌≡◌, ℕ, ◌+◌, ◌<◌, List, [], ◌∷◌, ◌++◌, length, take, get_or, Some}
use Rattle.std.proofs.lemmas.List.{take_more}
use Rattle.serde_json.specs.Data.{Data}
use Rattle.serde_json.specs.Find.{as_array}
use Rattle.serde_json.specs.View.{view, items_view}
use Rattle.serde_json.specs.declared.value.Value.{Value}
use Rattle.serde_json.proofs.Views.{get_item_within}
use Rattle.gltf_json_record.specs.Fault.{Tells, IsUnder}
use Rattle.gltf_json_record.specs.Place.{numbered}
use Rattle.gltf_json_record.specs.Kind.{Kind}
use Rattle.gltf_json_record.specs.Items.{AllRead}
use Rattle.gltf_json_record.specs.Lists.{list}
use Rattle.gltf_json_record.specs.declared.error.Error.{Error}
use Rattle.gltf_json_record.specs.declared.error.Error.TheVariants.{Text, Record, Memory}

AllRead-push : {T : Type 0} (P : Data → T → Type 0) (vs : List Value) (v : Value) (xs : List T)
    (x : T)
    → AllRead P (items_view vs) xs → P (view v) x
    → AllRead P (items_view (vs ++ v ∷ [])) (xs ++ x ∷ [])
AllRead-push P [] v [] x h p = (p, tt)
AllRead-push P [] v (y ∷ ys) x h p = absurd h
AllRead-push P (w ∷ ws) v [] x h p = absurd h
AllRead-push P (w ∷ ws) v (y ∷ ys) x h p = (h.0, AllRead-push P ws v ys x h.1 p)

-- one more item is read
pub AllRead-take : {T : Type 0} (P : Data → T → Type 0) (vs : List Value) (i : ℕ) (v : Value)
    (xs : List T) (x : T)
    → i < length vs → v ≡ get_or vs i v → AllRead P (items_view (take i vs)) xs → P (view v) x
    → AllRead P (items_view (take (i + 1) vs)) (xs ++ x ∷ [])
AllRead-take P vs i v xs x below at h p =
    rw (take_more vs i v below, ← at) (AllRead-push P (take i vs) v xs x h p)

-- the fault of an item is one of the array
pub list_fault : {T : Type 0} (K : Kind T) (vs : List Value) (i : ℕ) (v : Value) (d : Data)
    (inner outer : Error)
    → i < length vs → v ≡ get_or vs i v → Some (items_view vs) ≡ as_array d
    → Tells (K.fault (view v)) inner → IsUnder (numbered i) inner outer
    → Tells ((list K).fault d) outer
list_fault K vs i v d (Text e) outer below at is h u = absurd h
list_fault K vs i v d Memory outer below at is h u = rw u tt
list_fault K vs i v d (Record p f) Memory below at is h u = tt
list_fault K vs i v d (Record p f) (Text e) below at is h u = absurd u
list_fault K vs i v d (Record p f) (Record q g) below at is h u =
    rw (← is) (i, rw (← get_item_within vs i v below, ← at) (p, u.0, rw u.1 h))
