use Rattle.gltf_json.proofs.Readings.{texts_alike}
use Rattle.gltf_json.proofs.laws.two_readings_of_a_text_are_alike.Goals as goal

pub returns : goal.returns
returns c = texts_alike
