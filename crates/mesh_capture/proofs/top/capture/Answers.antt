use Rattle.mesh_capture.proofs.Refusals.{not_silent}
use Rattle.mesh_capture.proofs.top.capture.Goals as goal

pub returns-in-BadLine-clause-silent : goal.returns-in-BadLine-clause-silent
returns-in-BadLine-clause-silent g c = λ bad fault. absurd (not_silent _ _ _ c.refuse.result c.refuse.ensures.said bad fault)
