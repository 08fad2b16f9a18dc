use Rattle.std.proofs.Common.{append_assoc}
use Rattle.mesh_capture.proofs.frame.Frame.put_record.Goals as goal

pub returns-clause-text : goal.returns-clause-text
returns-clause-text c =
    rw (c.put_u32-4.ensures.text, c.put_u32-3.ensures.text, c.put_u32-2.ensures.text, c.put_u32.ensures.text, c.from-size.ensures, c.packet_size.ensures, c.microseconds.ensures, c.seconds.ensures)
    (simp append_assoc)
