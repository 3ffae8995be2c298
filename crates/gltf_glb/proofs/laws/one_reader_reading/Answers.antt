use Rattle.gltf_glb.proofs.ReaderLaws.{one_reader_reading}
use Rattle.gltf_glb.proofs.laws.one_reader_reading.Goals as goal

pub returns : goal.returns
returns c = one_reader_reading
