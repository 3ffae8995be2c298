use Rattle.gltf_read.proofs.Answered.{colors_by_answers, indices_by_answers, joints_by_answers}
use Rattle.gltf_read.proofs.Answered.{outputs_by_answers, tex_coords_by_answers, weights_by_answers}
use Rattle.gltf_read.proofs.laws.tables_are_by_answers.Goals as goal

pub returns-clause-colors : goal.returns-clause-colors
returns-clause-colors g c =
    colors_by_answers (λ b o. goal.F-post g c.args.get_buffer_data.now b o)

pub returns-clause-indices : goal.returns-clause-indices
returns-clause-indices g c =
    indices_by_answers (λ b o. goal.F-post g c.args.get_buffer_data.now b o)

pub returns-clause-joints : goal.returns-clause-joints
returns-clause-joints g c =
    joints_by_answers (λ b o. goal.F-post g c.args.get_buffer_data.now b o)

pub returns-clause-tex_coords : goal.returns-clause-tex_coords
returns-clause-tex_coords g c =
    tex_coords_by_answers (λ b o. goal.F-post g c.args.get_buffer_data.now b o)

pub returns-clause-weights : goal.returns-clause-weights
returns-clause-weights g c =
    weights_by_answers (λ b o. goal.F-post g c.args.get_buffer_data.now b o)

pub returns-clause-outputs : goal.returns-clause-outputs
returns-clause-outputs g c =
    outputs_by_answers (λ b o. goal.F-post g c.args.get_buffer_data.now b o)
