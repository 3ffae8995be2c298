use Rattle.gltf_json_geometry.specs.declared.semantic.Semantic.TheVariants as attributes
use Rattle.gltf_read.specs.Colors.{AreColors}
use Rattle.gltf_read.specs.Indices.{AreIndices}
use Rattle.gltf_read.specs.Joints.{AreJoints}
use Rattle.gltf_read.specs.Members.{attribute_at, indices_at}
use Rattle.gltf_read.specs.Reading.{AreItems}
use Rattle.gltf_read.specs.TexCoords.{AreTexCoords}
use Rattle.gltf_read.specs.Weights.{AreWeights}
use Rattle.gltf.proofs.OfBytes.{of_bytes}
use Rattle.gltf.proofs.laws.primitives_are_of_the_bytes.Goals as goal

pub returns-clause-positions : goal.returns-clause-positions
returns-clause-positions c m p =
    of_bytes (λ r. AreItems) (λ r. attribute_at r m p attributes.Positions)
    c.one_reading.ensures c.what_shows_the_same_is_alike_in_each_member.ensures
    c.readings_of_one_value_have_the_same_indices.ensures
    (λ r. c.items_are_alike.ensures)
    (λ r s have. have.attributes m p attributes.Positions)
    (λ r s have answer i result h. h)

pub returns-clause-normals : goal.returns-clause-normals
returns-clause-normals c m p =
    of_bytes (λ r. AreItems) (λ r. attribute_at r m p attributes.Normals)
    c.one_reading.ensures c.what_shows_the_same_is_alike_in_each_member.ensures
    c.readings_of_one_value_have_the_same_indices.ensures
    (λ r. c.items_are_alike.ensures)
    (λ r s have. have.attributes m p attributes.Normals)
    (λ r s have answer i result h. h)

pub returns-clause-tangents : goal.returns-clause-tangents
returns-clause-tangents c m p =
    of_bytes (λ r. AreItems) (λ r. attribute_at r m p attributes.Tangents)
    c.one_reading.ensures c.what_shows_the_same_is_alike_in_each_member.ensures
    c.readings_of_one_value_have_the_same_indices.ensures
    (λ r. c.items_are_alike-2.ensures)
    (λ r s have. have.attributes m p attributes.Tangents)
    (λ r s have answer i result h. h)

pub returns-clause-colors : goal.returns-clause-colors
returns-clause-colors c m p set =
    of_bytes (λ r. AreColors) (λ r. attribute_at r m p (attributes.Colors set))
    c.one_reading.ensures c.what_shows_the_same_is_alike_in_each_member.ensures
    c.readings_of_one_value_have_the_same_indices.ensures
    (λ r. c.colors_are_alike.ensures)
    (λ r s have. have.attributes m p (attributes.Colors set))
    (λ r s have answer i result h. h)

pub returns-clause-joints : goal.returns-clause-joints
returns-clause-joints c m p set =
    of_bytes (λ r. AreJoints) (λ r. attribute_at r m p (attributes.Joints set))
    c.one_reading.ensures c.what_shows_the_same_is_alike_in_each_member.ensures
    c.readings_of_one_value_have_the_same_indices.ensures
    (λ r. c.joints_are_alike.ensures)
    (λ r s have. have.attributes m p (attributes.Joints set))
    (λ r s have answer i result h. h)

pub returns-clause-tex_coords : goal.returns-clause-tex_coords
returns-clause-tex_coords c m p set =
    of_bytes (λ r. AreTexCoords) (λ r. attribute_at r m p (attributes.TexCoords set))
    c.one_reading.ensures c.what_shows_the_same_is_alike_in_each_member.ensures
    c.readings_of_one_value_have_the_same_indices.ensures
    (λ r. c.tex_coords_are_alike.ensures)
    (λ r s have. have.attributes m p (attributes.TexCoords set))
    (λ r s have answer i result h. h)

pub returns-clause-weights : goal.returns-clause-weights
returns-clause-weights c m p set =
    of_bytes (λ r. AreWeights) (λ r. attribute_at r m p (attributes.Weights set))
    c.one_reading.ensures c.what_shows_the_same_is_alike_in_each_member.ensures
    c.readings_of_one_value_have_the_same_indices.ensures
    (λ r. c.weights_are_alike.ensures)
    (λ r s have. have.attributes m p (attributes.Weights set))
    (λ r s have answer i result h. h)

pub returns-clause-indices : goal.returns-clause-indices
returns-clause-indices c m p =
    of_bytes (λ r. AreIndices) (λ r. indices_at r m p)
    c.one_reading.ensures c.what_shows_the_same_is_alike_in_each_member.ensures
    c.readings_of_one_value_have_the_same_indices.ensures
    (λ r. c.indices_are_alike.ensures)
    (λ r s have. have.indices m p)
    (λ r s have answer i result h. h)
