use Rattle.std.proofs.Common.{sym}
use Rattle.gltf_buffers.specs.Buffers.{sources_of}
use Rattle.gltf_options.proofs.Buffers.{sources_alike, one_buffers, no_buffers}
use Rattle.gltf_options.proofs.laws.what_shows_the_same_has_the_same_buffers.Goals as goal

pub returns-clause-one : goal.returns-clause-one
returns-clause-one c = λ names r s blob buffers others known same x y.
    let alike = c.what_shows_the_same_is_alike_in_each_member.ensures in
    one_buffers names (sources_of r) blob buffers others known x
    (rw (sources_alike s r (alike s r (sym same))) at y)

pub returns-clause-none : goal.returns-clause-none
returns-clause-none c = λ names r s blob fault others known same wrong y.
    let alike = c.what_shows_the_same_is_alike_in_each_member.ensures in
    no_buffers names (sources_of r) blob others fault known
    (rw (sources_alike s r (alike s r (sym same))) at y) wrong
