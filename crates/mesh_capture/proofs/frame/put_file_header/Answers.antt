use Rattle.std.proofs.Common.{append_assoc}
use Rattle.mesh_capture.specs.Frames.{file_header}
use Rattle.mesh_capture.proofs.frame.put_file_header.Goals as goal

pub returns : goal.returns
unfolding file_header
returns c =
    rw (c.put_u32-5.ensures.text, c.put_u32-4.ensures.text, c.put_u32-3.ensures.text, c.put_u32-2.ensures.text, c.put_u16-2.ensures.text, c.put_u16.ensures.text, c.put_u32.ensures.text)
    (simp append_assoc)
