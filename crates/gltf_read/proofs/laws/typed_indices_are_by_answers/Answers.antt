use Rattle.gltf_read.proofs.Answered.{typed_indices_by_answers}
use Rattle.gltf_read.proofs.laws.typed_indices_are_by_answers.Goals as goal

pub returns : goal.returns
returns g c = typed_indices_by_answers (λ b o. goal.F-post g c.args.get_buffer_data.now b o)
