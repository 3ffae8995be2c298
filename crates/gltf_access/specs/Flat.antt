-- The bytes of all items of an accessor, one item after the other (glTF 2.0, section 3.6.2,
-- "Accessors").
use Rattle.std.specs.Prelude.{◌≡◌, ℕ, zero, suc, ◌*◌, ◌<◌, List, ◌++◌, length, take, drop}
use Rattle.std.specs.Prelude.{replicate, Option, Some, None, option_map, Result, Ok, Err}
use Rattle.std.specs.Prelude.{nat_le, MatchBool}
use Rattle.std.specs.List.{concat}
use Rattle.std.proofs.Common.{arith, refl}
use Rattle.std.proofs.lemmas.List.{take-take}
use Rattle.gltf_json.specs.declared.root.Root.{Root}
use Rattle.gltf_json_geometry.specs.declared.accessor.Accessor.{Accessor}
use Rattle.gltf_items.specs.Reading.{ReadsFront}
use Rattle.gltf_items.specs.declared.item.Item.{Ghosts}
use Rattle.gltf_data.specs.Answers.{Results, Reads, ReadsAlike}
use Rattle.gltf_access.specs.declared.flat.NotWritten.{NotWritten}
use Rattle.gltf_access.specs.declared.flat.NotWritten.TheVariants.{Unreadable, NoRoom}

-- an item of n bytes; one of no bytes takes up one, since each item has bytes
abbrev pub front : ℕ → ℕ
front zero = 1
front (suc n) = suc n

pub front-positive : (n : ℕ) → 0 < front n
front-positive zero = omega arith
front-positive (suc n) = omega arith

pub front-reads_front : (n : ℕ) → ReadsFront (front n) (take n)
front-reads_front zero bytes h = refl
front-reads_front (suc n) bytes h = take-take (suc n) (suc n) bytes (omega arith)

-- it is its bytes
abbrev pub as_bytes : (n : ℕ) → Ghosts (List ℕ)
as_bytes n = record { size = front n; value = take n; zero_item = replicate n 0 }

-- those of all items of an accessor, read as items of n bytes by the answers of a closure; none
-- where it cannot be read by these
pub record IsFlat (Gives : Results) (n : ℕ) (r : Root) (a : Accessor)
    (result : Option (List ℕ)) : Type 0 where
  pub items : Option (List (List ℕ))
  pub reads : Reads Gives (as_bytes n) r a items
  pub alike : ReadsAlike Gives (as_bytes n) r a items
  pub flat : result ≡ option_map concat items

-- where there are items of n bytes and they fit the room, they stand at its front, what follows
-- them stays, and the result is how many bytes they have; else the room is as it was, and the
-- result says what failed
abbrev pub IsWritten : ℕ → Option (List (List ℕ)) → Result ℕ NotWritten → List ℕ → List ℕ → Type 0
IsWritten n None result old new = (result ≡ Err Unreadable) × (new ≡ old)
IsWritten n (Some items) result old new =
    MatchBool (nat_le (length items * n) (length old))
    ((result ≡ Ok (length items * n)) × (new ≡ concat items ++ drop (length items * n) old))
    ((result ≡ Err NoRoom) × (new ≡ old))

-- the same items, written to a room
pub record IsFlatIn (Gives : Results) (n : ℕ) (r : Root) (a : Accessor)
    (result : Result ℕ NotWritten) (old new : List ℕ) : Type 0 where
  pub items : Option (List (List ℕ))
  pub reads : Reads Gives (as_bytes n) r a items
  pub alike : ReadsAlike Gives (as_bytes n) r a items
  pub written : IsWritten n items result old new
