use Rattle.gltf_inspect_items.specs.Members.{members_left}
use Rattle.gltf_inspect_values.proofs.walk.summary.Goals as goal

pub returns : goal.returns
returns g c = record {
  members = members_left c.members_at.result;
  same = c.members_at.ensures;
  is = c.summary_of_members.ensures;
}
