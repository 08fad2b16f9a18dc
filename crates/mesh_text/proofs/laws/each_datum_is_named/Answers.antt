use Rattle.mesh_text.proofs.NamedRuns as lemmas
use Rattle.mesh_text.proofs.laws.each_datum_is_named.Goals as goal

pub returns : goal.returns
returns c = lemmas.each_datum_is_named
