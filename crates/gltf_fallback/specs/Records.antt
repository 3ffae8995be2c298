-- A document in which records have the members that the loader needs and glTF 2.0 leaves to their
-- extensions: the source of a texture ("When undefined, an extension or other mechanism SHOULD
-- supply an alternate texture source", section 5.29.2), and the node of a channel's target ("When
-- undefined, the animated object MAY be defined by an extension", section 5.7.1); and the same as it
-- was.
use Rattle.std.specs.Prelude.{List, ℕ, Bool, Option, codes, not, option_map, unwrap_or}
use Rattle.std.specs.Prelude.{option_and_then, if◌then◌else◌, ◌&&◌}
use Rattle.std.specs.Option.{is_some}
use Rattle.serde_json.specs.Data.{Data, string}
use Rattle.serde_json.specs.Find.{get, at}
use Rattle.gltf_edit.specs.Bundled.{with_member, with_some, member_at, whole}
use Rattle.gltf_fallback.specs.Lifted.{own, edited_list}

-- the first item of a list
abbrev pub first_in : List ℕ → Data → Option Data
first_in k d = option_and_then (at 0) (get k d)

-- a document has one
abbrev pub has_items : List ℕ → Data → Bool
has_items k d = is_some (first_in k d)

-- a member is absent, or null
abbrev pub lacks : List ℕ → Data → Bool
lacks k d = not (is_some (member_at k d))

-- d, which keeps e
abbrev pub keeping : Data → Data → Data
keeping e d = with_member own e d

-- ---- filled

-- a texture without a source, with the first image, where there are images
abbrev pub filled_texture : Bool → Data → Data
filled_texture images d =
    if images && lacks (codes "source") d
    then keeping d (with_member (codes "source") (whole 0) d) else d

-- the translation of the first node
abbrev pub on_translation : Data → Data
on_translation d =
    with_member (codes "node") (whole 0)
    (with_member (codes "path") (string (codes "translation")) d)

-- a target without a node is that, where there are nodes
abbrev pub filled_target : Bool → Data → Data
filled_target nodes d =
    if nodes && lacks (codes "node") d then keeping d (on_translation d) else d

abbrev pub filled_channel : Bool → Data → Data
filled_channel nodes d =
    with_some (codes "target") (option_map (filled_target nodes) (get (codes "target") d)) d

abbrev pub filled_animation : Bool → Data → Data
filled_animation nodes d = edited_list (codes "channels") (filled_channel nodes) d

abbrev pub filled : Data → Data
filled d =
    edited_list (codes "animations") (filled_animation (has_items (codes "nodes") d))
    (edited_list (codes "textures") (filled_texture (has_items (codes "images") d)) d)

-- ---- and back

-- what was kept
abbrev pub emptied_record : Data → Data
emptied_record d = unwrap_or (get own d) d

abbrev pub emptied_channel : Data → Data
emptied_channel d =
    with_some (codes "target") (option_map emptied_record (get (codes "target") d)) d

abbrev pub emptied_animation : Data → Data
emptied_animation d = edited_list (codes "channels") emptied_channel d

abbrev pub emptied : Data → Data
emptied d =
    edited_list (codes "animations") emptied_animation
    (edited_list (codes "textures") emptied_record d)
