-- Skins, row by row (glTF 2.0, section 5.28).
use Rattle.std.specs.Prelude.{codes}
use Rattle.gltf_json_record.specs.Kind.{Kind}
use Rattle.gltf_json_record.specs.Lists.{list}
use Rattle.gltf_json_record.specs.Scalars.{text, index, any}
use Rattle.gltf_json_record.specs.Table.{required, optional, ◌&◌, table}
use Rattle.gltf_json_record.specs.Extensions.{others_only}
use Rattle.gltf_json_scene.specs.declared.skin.Skin.{Skin}

unfoldable pub skin : Kind Skin
skin = table
    (optional (codes "inverseBindMatrices") (λ r. r.inverse_bind_matrices) index
    & required (codes "joints") (λ r. r.joints) (list index)
    & optional (codes "skeleton") (λ r. r.skeleton) index
    & optional (codes "name") (λ r. r.name) text
    & optional (codes "extensions") (λ r. r.extensions) others_only
    & optional (codes "extras") (λ r. r.extras) any)
