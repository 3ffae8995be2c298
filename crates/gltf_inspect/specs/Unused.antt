-- The objects that no member of the document names.
use Rattle.std.specs.Prelude.{ℕ, false, List, [], ◌∷◌, codes}
use Rattle.gltf_json.specs.declared.root.Root.{Root}
use Rattle.gltf_json_record.specs.Place.{numbered}
use Rattle.gltf_uses.specs.declared.kind.Kind.{Kind}
use Rattle.gltf_uses.specs.declared.kind.Kind.TheVariants as list
use Rattle.gltf_uses.specs.References.{unused_of}
use Rattle.gltf_findings.specs.declared.code.Code.TheVariants.{UnusedObject}
use Rattle.gltf_findings.specs.Checks.{Checks, Nothing, Condition, At, ◌&◌, member}

-- at each of these indices one is found
abbrev pub unused_checks : List ℕ → Checks
unused_checks [] = Nothing
unused_checks (i ∷ is) = At (numbered i) (Condition false UnusedObject) & unused_checks is

-- of the lists, by the indices of their unused objects
abbrev pub lights_unused_checks : (Kind → List ℕ) → Checks
lights_unused_checks unused =
    member (codes "extensions") (member (codes "KHR_lights_punctual")
    (member (codes "lights") (unused_checks (unused list.Light))))

abbrev pub first_unused_checks : (Kind → List ℕ) → Checks
first_unused_checks unused =
    member (codes "accessors") (unused_checks (unused list.Accessor))
    & member (codes "buffers") (unused_checks (unused list.Buffer))
    & member (codes "bufferViews") (unused_checks (unused list.View))
    & member (codes "cameras") (unused_checks (unused list.Camera))
    & member (codes "images") (unused_checks (unused list.Image))
    & member (codes "materials") (unused_checks (unused list.Material))

abbrev pub later_unused_checks : (Kind → List ℕ) → Checks
later_unused_checks unused =
    member (codes "meshes") (unused_checks (unused list.Mesh))
    & member (codes "nodes") (unused_checks (unused list.Node))
    & member (codes "samplers") (unused_checks (unused list.Sampler))
    & member (codes "skins") (unused_checks (unused list.Skin))
    & member (codes "textures") (unused_checks (unused list.Texture))
    & lights_unused_checks unused

abbrev pub root_unused_checks : Root → Checks
root_unused_checks r = first_unused_checks (unused_of r) & later_unused_checks (unused_of r)
