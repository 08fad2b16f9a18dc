use Rattle.mesh_check.proofs.Rights.{one_answer}
use Rattle.mesh_check.proofs.laws.a_text_has_one_answer.Goals as goal

pub returns : goal.returns
returns c = one_answer
