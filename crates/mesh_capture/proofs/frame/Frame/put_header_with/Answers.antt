use Rattle.std.proofs.Common.{append_assoc}
use Rattle.mesh_capture.proofs.frame.Frame.put_header_with.Goals as goal

pub returns-clause-text : goal.returns-clause-text
returns-clause-text c =
    rw (c.put_u32-2.ensures.text, c.put_u32.ensures.text, c.put_u16-3.ensures.text, c.put-2.ensures.text, c.put_u16-2.ensures.text, c.put_u16.ensures.text, c.put.ensures.text, c.packet_size.ensures, c.mark.ensures)
    (simp append_assoc)
