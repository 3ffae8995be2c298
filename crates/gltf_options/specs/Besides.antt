-- A document without the names that a caller handles (glTF 2.0, section 3.12).
use Rattle.std.specs.Prelude.{◌≡◌, ℕ, List, map}
use Rattle.gltf_json.specs.declared.root.Root.{Root}
use Rattle.gltf_options.specs.Names.{texts, left_of}
use Rattle.gltf_options.specs.declared.options.Options.{Options}

-- the names that the caller handles
abbrev pub listed : Options → List (List ℕ)
listed options = map (λ k. k.now) options.also_supported.now

-- the names in `extensionsRequired`
abbrev pub required_of : Root → List (List ℕ)
required_of r = texts r.extensions_required.items

-- s is r without the names of the list in `extensionsRequired`: the others are there in their
-- order, and every other member is that of r
pub record IsBesides (also : List (List ℕ)) (r s : Root) : Type 0 where
  pub names : required_of s ≡ left_of also (required_of r)
  pub others : s ≡ record r { extensions_required = s.extensions_required }
