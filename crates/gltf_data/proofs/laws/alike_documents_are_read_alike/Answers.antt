use Rattle.gltf_data.proofs.Alike.{alike_reads}
use Rattle.gltf_data.proofs.laws.alike_documents_are_read_alike.Goals as goal

pub returns : goal.returns
returns g c r s alike answer index result reads =
    alike_reads g.T.Item r s alike answer index result reads
