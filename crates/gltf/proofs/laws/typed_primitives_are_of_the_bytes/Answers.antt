use Rattle.gltf_json_geometry.specs.declared.semantic.Semantic.TheVariants as attributes
use Rattle.gltf_read.specs.Indices.{AreIndices}
use Rattle.gltf_read.specs.Kinds.{OfKind, three_floats, indices}
use Rattle.gltf_read.specs.Members.{attribute_at, indices_at}
use Rattle.gltf_read.specs.Reading.{AreItems}
use Rattle.gltf.proofs.OfBytes.{of_bytes}
use Rattle.gltf.proofs.laws.typed_primitives_are_of_the_bytes.Goals as goal

pub returns-clause-positions : goal.returns-clause-positions
returns-clause-positions c m p =
    of_bytes (λ r. OfKind three_floats AreItems) (λ r. attribute_at r m p attributes.Positions)
    c.one_reading.ensures c.what_shows_the_same_is_alike_in_each_member.ensures
    c.readings_of_one_value_have_the_same_indices.ensures
    (λ r. c.typed_items_are_alike.ensures three_floats)
    (λ r s have. have.attributes m p attributes.Positions)
    (λ r s have answer i result h. h)

pub returns-clause-indices : goal.returns-clause-indices
returns-clause-indices c m p =
    of_bytes (λ r. OfKind indices AreIndices) (λ r. indices_at r m p)
    c.one_reading.ensures c.what_shows_the_same_is_alike_in_each_member.ensures
    c.readings_of_one_value_have_the_same_indices.ensures
    (λ r. c.typed_indices_are_alike.ensures indices)
    (λ r s have. have.indices m p)
    (λ r s have answer i result h. h)
