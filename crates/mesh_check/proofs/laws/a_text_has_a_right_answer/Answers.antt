use Rattle.mesh_check.proofs.Rights.{right_answer}
use Rattle.mesh_check.proofs.laws.a_text_has_a_right_answer.Goals as goal

pub returns : goal.returns
returns c = right_answer
