-- What has an accessor that is left out: the places of which a report says nothing then.
use Rattle.std.specs.Prelude.{◌≡◌, ◌⊎◌, ◌∷◌, ℕ, Bool, true, List, Some, slice_get, codes}
use Rattle.gltf_json.specs.declared.root.Root.{Root}
use Rattle.gltf_json_animation.specs.declared.animation.Animation.{Animation}
use Rattle.gltf_json_animation.specs.declared.animation.Sampler.{Sampler}
use Rattle.gltf_json_geometry.specs.declared.mesh.Mesh.{Mesh}
use Rattle.gltf_json_geometry.specs.declared.mesh.Primitive.{Primitive}
use Rattle.gltf_json_record.specs.Place.{Place, named, numbered}
use Rattle.gltf_findings.specs.declared.code.Code.{Code}
use Rattle.gltf_findings.specs.declared.code.Code.TheVariants.{ItemsNotLookedAt}

-- an accessor that is left out
pub record AtAccessor (out : ℕ → Bool) (path : List Place) : Type 0 where
  pub index : ℕ
  pub rest : List Place
  pub is_out : out index ≡ true
  pub at : path ≡ named (codes "accessors") ∷ numbered index ∷ rest

-- the indices of a primitive, at one
pub record AtIndices (out : ℕ → Bool) (r : Root) (path : List Place) : Type 0 where
  pub mesh : ℕ
  pub m : Mesh
  pub has_mesh : slice_get r.meshes.items mesh ≡ Some m
  pub primitive : ℕ
  pub p : Primitive
  pub has_primitive : slice_get m.primitives.items primitive ≡ Some p
  pub index : ℕ
  pub has_index : p.indices ≡ Some index
  pub is_out : out index ≡ true
  pub rest : List Place
  pub at : path
      ≡ named (codes "meshes") ∷ numbered mesh ∷ named (codes "primitives") ∷ numbered primitive
      ∷ named (codes "indices") ∷ rest

-- the times of a sampler, at one
pub record AtInput (out : ℕ → Bool) (r : Root) (path : List Place) : Type 0 where
  pub animation : ℕ
  pub a : Animation
  pub has_animation : slice_get r.animations.items animation ≡ Some a
  pub sampler : ℕ
  pub s : Sampler
  pub has_sampler : slice_get a.samplers.items sampler ≡ Some s
  pub is_out : out s.input ≡ true
  pub rest : List Place
  pub at : path
      ≡ named (codes "animations") ∷ numbered animation ∷ named (codes "samplers")
      ∷ numbered sampler ∷ named (codes "input") ∷ rest

-- one of these
abbrev pub IsOfLeftOut : (ℕ → Bool) → Root → List Place → Type 0
IsOfLeftOut out r path = AtAccessor out path ⊎ (AtIndices out r path ⊎ AtInput out r path)

-- that the items of an accessor were not looked at
abbrev pub SaysLeftOut : (ℕ → Bool) → List Place → Code → Type 0
SaysLeftOut out path code = AtAccessor out path × (code ≡ ItemsNotLookedAt)
