-- The items of the accessor at an index of a document, by what is answered for each buffer (glTF
-- 2.0, section 3.6.2, "Accessors").
use Rattle.std.specs.Prelude.{ℕ, List, [], Option, Some, None, slice_get, SomeIff}
use Rattle.gltf_json.specs.declared.root.Root.{Root}
use Rattle.gltf_json_geometry.specs.declared.accessor.Accessor.{Accessor}
use Rattle.gltf_items.specs.declared.item.Item.{Ghosts}
use Rattle.gltf_data.specs.Parts.{Readable, items, stored_count}
use Rattle.gltf_data.specs.Answers.{answers_by}

abbrev pub accessor_at : Root → ℕ → Option Accessor
accessor_at r index = slice_get r.accessors.items index

-- the accessor is there, and can be read as items of that size
abbrev pub IsReadable : ℕ → Root → (ℕ → Option (List ℕ)) → Option Accessor → Type 0
IsReadable size r answer None = ⊥
IsReadable size r answer (Some a) = Readable size r a (answers_by answer size r a)

abbrev pub items_of : {X : Type 0} → Ghosts X → Root → (ℕ → Option (List ℕ)) → Option Accessor
    → List X
items_of t r answer None = []
items_of t r answer (Some a) = items t r a (answers_by answer t.size r a)

-- these are the items of accessor `index`, where it is there and can be read; else none are
abbrev pub ReadsAt : {X : Type 0} → Ghosts X → Root → (ℕ → Option (List ℕ)) → ℕ → Option (List X)
    → Type 0
ReadsAt t r answer index result =
    SomeIff result (IsReadable t.size r answer (accessor_at r index))
    (items_of t r answer (accessor_at r index))

-- how many indices an accessor stores, where it is there
abbrev pub stored_in : Option Accessor → ℕ
stored_in None = 0
stored_in (Some a) = stored_count a.sparse
