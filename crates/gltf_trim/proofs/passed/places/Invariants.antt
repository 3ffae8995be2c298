use Rattle.serde_json.specs.View.{items_view}
use Rattle.gltf_trim.specs.Passed.{MayGoUpTo}
use Rattle.gltf_trim.specs.Tails.{bytes_of}
use Rattle.gltf_trim.proofs.passed.places.Given as goal

abbrev pub invariant-loop-one : goal.invariant-loop-one
invariant-loop-one l = MayGoUpTo l.ends (bytes_of l.bytes) (items_view l.views) l.places.items
