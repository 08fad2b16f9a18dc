use Rattle.mesh_grid.proofs.PlaceWords as lemmas
use Rattle.mesh_grid.proofs.laws.a_place_line_is_written_as_it_stands.Goals as goal

pub returns : goal.returns
returns c = lemmas.place_line_is_written_as_it_stands
