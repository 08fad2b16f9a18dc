use Rattle.std.proofs.Common.{refl}
use Rattle.mesh_capture.specs.Frames.{record_of, header, datagram}
use Rattle.mesh_capture.proofs.frame.Frame.put_into.Goals as goal

pub returns : goal.returns
unfolding record_of header datagram
returns c = rw (c.put_with.ensures, c.clear.ensures, c.header_checksum-header.ensures, c.datagram_checksum-datagram.ensures) refl
