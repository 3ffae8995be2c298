use Rattle.std.proofs.Common.{◌≡◌, map, take, None}
use Rattle.serde_json.specs.View.{view}
use Rattle.gltf_mend.specs.Textures.{first_source}
use Rattle.gltf_mend.proofs.textures.first_source.Given as goal

abbrev pub invariant-loop-name : goal.invariant-loop-name
invariant-loop-name l =
    first_source (map (λ n. n.now) (take l.name-index l.names)) (view l.texture) ≡ None
