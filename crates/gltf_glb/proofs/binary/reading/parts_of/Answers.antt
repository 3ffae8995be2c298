use Rattle.gltf_glb.specs.Bytes.{chunk, json_tag}
use Rattle.gltf_glb.proofs.Places.{found_behind}
use Rattle.gltf_glb.proofs.binary.reading.parts_of.Goals as goal

pub returns-clause-place : goal.returns-clause-place
returns-clause-place c =
    found_behind c.args.body.now (chunk json_tag c.in_ok-json.json.now) c.in_ok-json.left.now
    c.in_ok-blob.blob c.in_ok-json.ensures.3 c.in_ok-blob.ensures.place
