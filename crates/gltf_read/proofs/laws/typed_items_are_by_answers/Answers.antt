use Rattle.gltf_read.proofs.Answered.{typed_items_by_answers}
use Rattle.gltf_read.proofs.laws.typed_items_are_by_answers.Goals as goal

pub returns : goal.returns
returns g c = typed_items_by_answers (λ b o. goal.F-post g c.args.get_buffer_data.now b o)
