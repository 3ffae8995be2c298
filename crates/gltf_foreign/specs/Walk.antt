-- The members of extension objects that name a buffer or a file (glTF 2.0, section 3.12).
use Rattle.std.specs.Prelude.{ℕ, ◌+◌, List, [], ◌∷◌, ◌++◌, Bool, true, false, not, filter, codes}
use Rattle.std.specs.Prelude.{bytes_eq, if◌then◌else◌, ◌&&◌, ◌||◌}
use Rattle.std.specs.List.{list_any}
use Rattle.serde_json.specs.Data.{Data, null, boolean, number, string, array, object}
use Rattle.serde_json.specs.Data.{Items, no_items, item, Members, no_members, member}
use Rattle.gltf_foreign.specs.Place.{Part, named, numbered, under}
use Rattle.gltf_foreign.specs.Place.{is_name, is_index}
use Rattle.gltf_foreign.specs.declared.walk.Scope.{Scope}
use Rattle.gltf_foreign.specs.declared.walk.Scope.TheVariants.{Outside, Extensions, Inside}

abbrev pub is_null : Data → Bool
is_null null = true
is_null _ = false

-- a member of this name names a buffer or a file
abbrev pub is_naming : List ℕ → Bool
is_naming name =
    list_any (λ k. bytes_eq name k)
    (codes "buffer" ∷ codes "buffers" ∷ codes "uri" ∷ codes "uris" ∷ [])

-- so it does in the object of an extension, where it is not null, and so absent
abbrev pub names_one : Scope → List ℕ → Data → Bool
names_one Outside name d = false
names_one Extensions name d = false
names_one Inside name d = if is_naming name then not (is_null d) else false

abbrev pub own : Scope → List ℕ → Data → List (List Part)
own scope name d = if names_one scope name d then (named name ∷ []) ∷ [] else []

-- where a part stands of what stands there
abbrev pub next_in : Scope → Scope
next_in Outside = Outside
next_in Extensions = Inside
next_in Inside = Inside

-- where the member of this name stands
abbrev pub next : Scope → List ℕ → Scope
next scope name = if bytes_eq name (codes "extensions") then Extensions else next_in scope

-- the places of all such members in a value, in order
abbrev mutual
  pub found : Scope → Data → List (List Part)
  found scope null = []
  found scope (boolean b) = []
  found scope (number n) = []
  found scope (string s) = []
  found scope (array ds) = found_items (next_in scope) 0 ds
  found scope (object ms) = found_members scope ms

  pub found_items : Scope → ℕ → Items → List (List Part)
  found_items scope i no_items = []
  found_items scope i (item d ds) =
      under (numbered i) (found scope d) ++ found_items scope (i + 1) ds

  pub found_members : Scope → Members → List (List Part)
  found_members scope no_members = []
  found_members scope (member k d ms) =
      own scope k d ++ (under (named k) (found (next scope k) d) ++ found_members scope ms)

-- this step leads to what a view says is compressed of it
abbrev pub is_compression_step : Part → Bool
is_compression_step s =
    is_name (codes "EXT_meshopt_compression") s || is_name (codes "KHR_meshopt_compression") s

abbrev pub is_said : Part → Part → Bool
is_said b m = is_name (codes "buffer") b && is_compression_step m

-- these lead to the extensions of a view
abbrev pub is_of_view : Part → Part → Part → Bool
is_of_view e i v =
    is_name (codes "extensions") e && (is_index i && is_name (codes "bufferViews") v)

-- the buffer of what is compressed of a view, which moves with those of views
abbrev pub is_moved : List Part → Bool
is_moved (b ∷ m ∷ e ∷ i ∷ v ∷ []) = is_said b m && is_of_view e i v
is_moved _ = false

-- the members of extension objects that name a buffer or a file, but those that are moved
abbrev pub named_elsewhere : Data → List (List Part)
named_elsewhere d = filter (λ p. not (is_moved p)) (found Outside d)
