use Rattle.std.proofs.Common.{append_assoc}
use Rattle.mesh_capture.proofs.frame.Frame.put_pseudo_header.Goals as goal

pub returns-clause-text : goal.returns-clause-text
returns-clause-text c =
    rw (c.put_u16.ensures.text, c.put.ensures.text, c.put_u32-2.ensures.text, c.put_u32.ensures.text, c.datagram_size.ensures)
    (simp append_assoc)
