use Rattle.std.proofs.Common.{length}
use Rattle.mesh_tests.proofs.handlers.takes_a_datum.Goals as goal

pub returns : goal.returns
returns g c = c.new_packet.ensures.order (length c.args.mesh.now) c.make_rooms.ensures.order
