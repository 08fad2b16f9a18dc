use Rattle.mesh_capture.proofs.Checks.{packet_length}
use Rattle.mesh_capture.proofs.laws.packets_are_as_long_as_they_say.Goals as goal

pub returns : goal.returns
returns c = packet_length
