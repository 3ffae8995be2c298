-- The rules of skins (glTF 2.0, section 3.7.3), in the order of their members.
use Rattle.std.specs.Prelude.{codes}
use Rattle.gltf_json_scene.specs.declared.skin.Skin.{Skin}
use Rattle.gltf_validation.specs.declared.counts.Counts.{Counts}
use Rattle.gltf_validation.specs.Rules.{Rules, ◌&◌}
use Rattle.gltf_validation.specs.Members.{member, index_rules, list_rules, optional_rules}

abbrev pub skin_rules : Counts → Skin → Rules
skin_rules c r =
    member (codes "inverseBindMatrices")
    (optional_rules (index_rules c.accessors) r.inverse_bind_matrices)
    & member (codes "joints") (list_rules (index_rules c.nodes) r.joints.items)
    & member (codes "skeleton") (optional_rules (index_rules c.nodes) r.skeleton)
