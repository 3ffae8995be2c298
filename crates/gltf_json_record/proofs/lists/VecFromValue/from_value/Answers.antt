use Rattle.std.proofs.Common.{◌≡◌, ◌∷◌, ◌++◌, [], rules}
use Rattle.serde_json.specs.View.{view}
use Rattle.gltf_json_record.proofs.Elements.{AllRead-take, list_fault}
use Rattle.gltf_json_record.proofs.lists.VecFromValue.from_value.Goals as goal

pub returns-in-Err-clause-err : goal.returns-in-Err-clause-err
returns-in-Err-clause-err g c =
    list_fault g.T.FromValue.kind c.deref-item-items.result.now c.loop-i.i c.item-item.result
    (view c.args.value.now) c.in-Err.error c.under.result
    (search rules) c.item-item.is (search rules) (search rules) c.under.ensures

pub loop-i-preserved : goal.loop-i-preserved
loop-i-preserved g c =
    let pushed : c.push.new.self.items ≡ c.loop-i.list.items ++ c.in-Ok.read ∷ [] =
    c.in_ok-push-in-Ok.ensures.items in
    rw pushed (AllRead-take g.T.FromValue.kind.is c.deref-item-items.result.now c.loop-i.i
    c.item-item.result c.loop-i.list.items c.in-Ok.read
    (search rules) c.item-item.is c.loop-i.invariant c.in-Ok.ensures.ok)
