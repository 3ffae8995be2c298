-- The attributes of a primitive, in the order of their meanings.
use Rattle.std.specs.Prelude.{◌≡◌, ℕ, zero, suc, ◌+◌, ◌-◌, List, drop, length, slice_get}
use Rattle.std.specs.Prelude.{Option, Some, None, MatchOption}
use Rattle.std.specs.Borrow.{Bor}
use Rattle.gltf_json.specs.declared.root.Root.{Root}
use Rattle.gltf_json_geometry.specs.declared.semantic.Semantic.{Semantic}
use Rattle.gltf_rules.specs.declared.records.Records.{Ghosts}
use Rattle.gltf_handles.specs.declared.accessor.Accessor.{Accessor}
use Rattle.gltf_handles.specs.Accessors.{IsAccessor}
use Rattle.gltf_scene.specs.declared.mesh.iter.Attributes.{Attributes}

-- the attributes that are left: the document, and what each one means, with the index of its
-- accessor
pub record AttributesLeft : Type 0 where
  pub document : Root
  pub entries : List (Semantic × ℕ)

module _ {D : Type 0} {G : Ghosts D} where
  -- what their iterator shows
  abbrev pub attributes_left : Attributes D G → AttributesLeft
  attributes_left a = record { document = G.root a.document.now; entries = a.entries }

  -- an attribute as it is given: its meaning, and the handle of its accessor
  abbrev pub IsAttribute : Root → Semantic × ℕ → Bor Semantic × Accessor D G → Type 0
  IsAttribute r entry given = (given.0.now ≡ entry.0) × IsAccessor r entry.1 given.1

  -- what is given at a number: the attribute there, or none past the end
  abbrev pub IsAttributeAt : AttributesLeft → ℕ → Option (Bor Semantic × Accessor D G) → Type 0
  IsAttributeAt left n given =
      MatchOption given
      (slice_get left.entries n ≡ None)
      (λ x. (entry : Semantic × ℕ) × (slice_get left.entries n ≡ Some entry)
      × IsAttribute left.document entry x)

  -- passes over n attributes, gives the one after them and leaves those after that; or gives none
  -- where so many are not left, and leaves none
  pub record NthAttribute (old : AttributesLeft) (n : ℕ)
      (given : Option (Bor Semantic × Accessor D G)) (new : AttributesLeft) : Type 0 where
    pub document : new.document ≡ old.document
    pub entries : new.entries ≡ drop (n + 1) old.entries
    pub item : IsAttributeAt old n given

  -- gives the last attribute, where one is left: what stands at the last number
  abbrev pub LastAttribute : AttributesLeft → Option (Bor Semantic × Accessor D G) → Type 0
  LastAttribute left given = IsAttributeAt left (length left.entries - 1) given

  -- what n + 1 calls of `next` give last, and leave
  abbrev pub AttributeByNext : AttributesLeft → ℕ → Option (Bor Semantic × Accessor D G)
      → AttributesLeft → Type 0
  AttributeByNext old zero given new = NthAttribute old 0 given new
  AttributeByNext old (suc n) given new =
      (first : Option (Bor Semantic × Accessor D G)) × (between : AttributesLeft)
      × NthAttribute old 0 first between × AttributeByNext between n given new
