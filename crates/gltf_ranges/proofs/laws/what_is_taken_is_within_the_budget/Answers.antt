use Rattle.gltf_ranges.proofs.Taken.{within_budget}
use Rattle.gltf_ranges.proofs.laws.what_is_taken_is_within_the_budget.Goals as goal

pub returns : goal.returns
returns c = within_budget
