use Rattle.mesh_grid.proofs.PlaceSteps as lemmas
use Rattle.mesh_grid.proofs.laws.other_lines_are_as_in_a_schedule.Goals as goal

pub returns : goal.returns
returns c = lemmas.other_line_is_as_in_schedule
