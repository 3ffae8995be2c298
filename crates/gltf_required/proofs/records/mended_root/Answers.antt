use Rattle.std.proofs.Common.{◌≡◌, false, rules}
use Rattle.gltf_required.proofs.Values.{read_whole}
use Rattle.gltf_required.proofs.records.mended_root.Goals as goal

pub returns-in-Ok-clause-ok : goal.returns-in-Ok-clause-ok
returns-in-Ok-clause-ok c =
    let none : c.args.mends.now.skip_unknown_attributes ≡ false = search rules in
    read_whole c.args.mends.now c.args.text.now c.in-Ok.root none c.in-Ok.ensures.ok
