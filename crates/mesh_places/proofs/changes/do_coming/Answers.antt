use Rattle.std.proofs.Common.{◌∙◌, sym}
use Rattle.mesh_places.specs.RunStates.{run_state_of}
use Rattle.mesh_places.proofs.Placings.{idle_state}
use Rattle.mesh_places.proofs.changes.do_coming.Goals as goal

pub returns-clause-run_state : goal.returns-clause-run_state
returns-clause-run_state g c = idle_state c.args.at.now.reach (run_state_of c.args.at.now) c.args.new.now (sym c.if-may_come.false ∙ c.may_come.ensures)
