use Rattle.mesh_grid.proofs.LinkLaws as lemmas
use Rattle.mesh_grid.proofs.laws.links_follow_places.Goals as goal

pub returns : goal.returns
returns c = lemmas.links_follow_places
