use Rattle.std.proofs.Common.{◌-◌, List, length}
use Rattle.serde_json.specs.Data.{Data}
use Rattle.serde_json.specs.View.{items_of}
use Rattle.gltf_json_record.specs.Items.{AllRead}
use Rattle.gltf_json_tokens.specs.Runs.{Items}
use Rattle.gltf_json_pull.proofs.pull.VecFromToken.from_token.Given as goal

-- ds are the values so far
abbrev pub invariant-items : goal.invariant-items
invariant-items g l = (ds : List Data) × Items (l.depth - 1) l.initial.rest ds l.rest
    × AllRead g.T.FromValue.kind.is (items_of ds) l.list.items

abbrev pub decreases-items : goal.decreases-items
decreases-items g l = length l.rest
