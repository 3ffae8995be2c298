use Rattle.std.proofs.Common.{refl}
use Rattle.gltf_items.specs.Sparse.{digits}
use Rattle.gltf_tests.proofs.laws.most_index_reads.Goals as goal

pub returns : goal.returns
unfolding digits
returns c = record { none = refl; one = refl; three = refl; thousand = refl }
