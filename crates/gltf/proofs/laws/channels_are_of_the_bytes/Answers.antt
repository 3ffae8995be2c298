use Rattle.std.proofs.Common.{subst}
use Rattle.gltf_read.specs.Members.{input_at, output_at, property_at}
use Rattle.gltf_read.specs.Outputs.{AreOutputs}
use Rattle.gltf_read.specs.Reading.{AreItems, IsMember}
use Rattle.gltf.proofs.OfBytes.{of_bytes}
use Rattle.gltf.proofs.laws.channels_are_of_the_bytes.Goals as goal

pub returns-clause-inputs : goal.returns-clause-inputs
returns-clause-inputs c a k =
    of_bytes (λ r. AreItems) (λ r. input_at r a k)
    c.one_reading.ensures c.what_shows_the_same_is_alike_in_each_member.ensures
    c.readings_of_one_value_have_the_same_indices.ensures
    (λ r. c.items_are_alike.ensures)
    (λ r s have. have.inputs a k)
    (λ r s have answer i result h. h)

pub returns-clause-outputs : goal.returns-clause-outputs
returns-clause-outputs c a k =
    of_bytes (λ r. AreOutputs (property_at r a k)) (λ r. output_at r a k)
    c.one_reading.ensures c.what_shows_the_same_is_alike_in_each_member.ensures
    c.readings_of_one_value_have_the_same_indices.ensures
    (λ r. c.outputs_are_alike.ensures (property_at r a k))
    (λ r s have. have.outputs a k)
    (λ r s have answer i result h.
    subst (λ q. IsMember (AreOutputs q) s answer i result) (have.properties a k) h)
