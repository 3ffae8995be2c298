use Rattle.gltf_read.specs.Members.{matrices_at}
use Rattle.gltf_read.specs.Reading.{AreItems}
use Rattle.gltf.proofs.OfBytes.{of_bytes}
use Rattle.gltf.proofs.laws.skins_are_of_the_bytes.Goals as goal

pub returns : goal.returns
returns c k =
    of_bytes (λ r. AreItems) (λ r. matrices_at r k)
    c.one_reading.ensures c.what_shows_the_same_is_alike_in_each_member.ensures
    c.readings_of_one_value_have_the_same_indices.ensures
    (λ r. c.items_are_alike.ensures)
    (λ r s have. have.matrices k)
    (λ r s have answer i result h. h)
