-- Items that lie one right behind the other in a view: their bytes there are those of all items.
use Rattle.std.specs.Prelude.{◌≡◌, ℕ, ◌*◌, ◌<◌, List, ◌++◌, length, drop, Option, Some, None}
use Rattle.std.specs.Prelude.{Result, Ok, Err, option_and_then, nat_le, MatchBool}
use Rattle.std.specs.List.{concat}
use Rattle.gltf_json.specs.declared.root.Root.{Root}
use Rattle.gltf_json_geometry.specs.declared.accessor.Accessor.{Accessor}
use Rattle.gltf_json_geometry.specs.declared.buffer.View.{View}
use Rattle.gltf_handles.specs.Sizes.{item_size}
use Rattle.gltf_data.specs.Answers.{Results, Reads, ReadsAlike}
use Rattle.gltf_data.specs.Parts.{stride, view_at}
use Rattle.gltf_access.specs.Flat.{as_bytes}
use Rattle.gltf_access.specs.declared.flat.NotWritten.{NotWritten}
use Rattle.gltf_access.specs.declared.flat.NotWritten.TheVariants.{Unreadable, NoRoom}

-- an accessor has a view and no sparse part, and its items follow each other in the view with
-- nothing between them; they have some bytes
pub record IsPacked (r : Root) (a : Accessor) : Type 0 where
  pub view : View
  pub at : option_and_then (view_at r) a.buffer_view ≡ Some view
  pub some : 0 < item_size a
  pub plain : a.sparse ≡ None
  pub packed : stride view (item_size a) ≡ item_size a

-- these are the bytes of all items, each of them of n bytes; none where there are no items
abbrev pub AreAll : ℕ → Option (List (List ℕ)) → Option (List ℕ) → Type 0
AreAll n None bytes = bytes ≡ None
AreAll n (Some items) bytes =
    (bytes ≡ Some (concat items)) × (length (concat items) ≡ length items * n)

-- these are the bytes of all items of an accessor, read by the answers of a closure; none where it
-- cannot be read by these
pub record ArePackedItems (Gives : Results) (r : Root) (a : Accessor)
    (bytes : Option (List ℕ)) : Type 0 where
  pub items : Option (List (List ℕ))
  pub reads : Reads Gives (as_bytes (item_size a)) r a items
  pub alike : ReadsAlike Gives (as_bytes (item_size a)) r a items
  pub all : AreAll (item_size a) items bytes

-- where there are bytes and they fit the room, they stand at its front, what follows them stays,
-- and the result is how many they are; else the room is as it was, and the result says what failed
abbrev pub IsCopied : Option (List ℕ) → Result ℕ NotWritten → List ℕ → List ℕ → Type 0
IsCopied None result old new = (result ≡ Err Unreadable) × (new ≡ old)
IsCopied (Some bytes) result old new =
    MatchBool (nat_le (length bytes) (length old))
    ((result ≡ Ok (length bytes)) × (new ≡ bytes ++ drop (length bytes) old))
    ((result ≡ Err NoRoom) × (new ≡ old))
