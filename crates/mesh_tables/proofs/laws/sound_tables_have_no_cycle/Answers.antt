use Rattle.mesh_tables.proofs.Cycles as lemmas
use Rattle.mesh_tables.proofs.laws.sound_tables_have_no_cycle.Goals as goal

pub returns : goal.returns
returns c = lemmas.no_cycle
