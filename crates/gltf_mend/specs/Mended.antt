-- The value of a document as it is mended (glTF 2.0, sections 3.7.2.1, 5.7.1.1 and 5.29.2).
use Rattle.std.specs.Prelude.{ℕ, List, Bool, map, if◌then◌else◌, codes}
use Rattle.serde_json.specs.Data.{Data}
use Rattle.gltf_edit.specs.Bundled.{each_item}
use Rattle.gltf_mend.specs.Edits.{changed}
use Rattle.gltf_mend.specs.Attributes.{with_attributes}
use Rattle.gltf_mend.specs.Channels.{with_nodes}
use Rattle.gltf_mend.specs.Textures.{with_source}
use Rattle.gltf_mend.specs.declared.mends.Mends.{Mends}

-- without the channels that name no node, where they are to be left out
abbrev pub with_channels_mended : Bool → Data → Data
with_channels_mended skip d =
    if skip then changed (codes "animations") (each_item (changed (codes "channels") with_nodes)) d
    else d

-- without the attributes that the standard does not name, where they are to be left out
abbrev pub with_meshes_mended : Bool → Data → Data
with_meshes_mended skip d =
    if skip
    then changed (codes "meshes") (each_item (changed (codes "primitives")
    (each_item (changed (codes "attributes") with_attributes)))) d
    else d

-- each texture without an image has the one that an extension names
abbrev pub with_textures_mended : List (List ℕ) → Data → Data
with_textures_mended names d = changed (codes "textures") (each_item (with_source names)) d

abbrev pub mended : Mends → Data → Data
mended mends d =
    with_textures_mended (map (λ n. n.now) mends.texture_sources.now)
    (with_meshes_mended mends.skip_unknown_attributes
    (with_channels_mended mends.skip_channels_without_node d))
