use Rattle.gltf.proofs.Readers.{answer_unknown}
use Rattle.gltf.proofs.file.Gltf.open.Goals as goal

pub returns-in-Ok : goal.returns-in-Ok
returns-in-Ok g c =
    let read = c.from_reader.ensures in
    record {
      came = read.came;
      reads = tt;
      within = read.within;
      answer = answer_unknown _ read.came c.from_reader.result read.answer;
    }
