use Rattle.std.proofs.Common.{ap}
use Rattle.std.specs.Option.{option_and_then}
use Rattle.gltf_read.specs.Members.{displacements_at}
use Rattle.gltf_read.specs.Reading.{AreItems}
use Rattle.gltf.proofs.OfBytes.{of_bytes}
use Rattle.gltf.proofs.laws.morph_targets_are_of_the_bytes.Goals as goal

pub returns-clause-positions : goal.returns-clause-positions
returns-clause-positions c m p t =
    of_bytes (λ r. AreItems) (λ r. option_and_then (λ d. d.0) (displacements_at r m p t))
    c.one_reading.ensures c.what_shows_the_same_is_alike_in_each_member.ensures
    c.readings_of_one_value_have_the_same_indices.ensures
    (λ r. c.items_are_alike.ensures)
    (λ r s have. ap (option_and_then (λ d. d.0)) (have.displacements m p t))
    (λ r s have answer i result h. h)

pub returns-clause-normals : goal.returns-clause-normals
returns-clause-normals c m p t =
    of_bytes (λ r. AreItems) (λ r. option_and_then (λ d. d.1) (displacements_at r m p t))
    c.one_reading.ensures c.what_shows_the_same_is_alike_in_each_member.ensures
    c.readings_of_one_value_have_the_same_indices.ensures
    (λ r. c.items_are_alike.ensures)
    (λ r s have. ap (option_and_then (λ d. d.1)) (have.displacements m p t))
    (λ r s have answer i result h. h)

pub returns-clause-tangents : goal.returns-clause-tangents
returns-clause-tangents c m p t =
    of_bytes (λ r. AreItems) (λ r. option_and_then (λ d. d.2) (displacements_at r m p t))
    c.one_reading.ensures c.what_shows_the_same_is_alike_in_each_member.ensures
    c.readings_of_one_value_have_the_same_indices.ensures
    (λ r. c.items_are_alike.ensures)
    (λ r s have. ap (option_and_then (λ d. d.2)) (have.displacements m p t))
    (λ r s have answer i result h. h)
