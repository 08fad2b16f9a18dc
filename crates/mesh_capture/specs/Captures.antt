-- The capture of a printed text: a file that holds one packet for each copy that was heard or lost,
-- and whether a line was refused.
use Rattle.std.specs.Prelude.{ℕ, ◌+◌, List, [], Option, Some, None}
use Rattle.mesh_io.specs.NextLines.{text_limits}
use Rattle.mesh_shell.specs.Pieces.{Piece, Whole, Long, Beyond}
use Rattle.mesh_shell.specs.Fold.{Outcome, On, Ended, Ending, Fold, RunText, text_on}
use Rattle.mesh_capture.specs.declared.frame.Frame.{Frame}
use Rattle.mesh_capture.specs.declared.status.CaptureVerdict.{CaptureVerdict}
use Rattle.mesh_capture.specs.declared.status.CaptureVerdict.TheVariants.{Done, BadLine}
use Rattle.mesh_capture.specs.Frames.{record_of, file_header}
use Rattle.mesh_capture.specs.Copies.{Reading, LineOutcome, nothing_read, after_line}

-- the packet of the copy that a line has ended, if it has ended one
abbrev pub framed_if : Option Frame → List ℕ
framed_if None = []
framed_if (Some f) = record_of f

-- the line after those that were read is refused
abbrev pub refused_after : Reading → Outcome Reading CaptureVerdict
refused_after r = Ended [] [] (BadLine (r.lines + 1))

-- a line that comes to this, or is refused
abbrev pub captured_after : Reading → Option LineOutcome → Outcome Reading CaptureVerdict
captured_after r None = refused_after r
captured_after r (Some outcome) = On (framed_if outcome.frame) outcome.now

-- a line that goes past a limit is refused too
abbrev pub line_captured : Reading → Piece → Outcome Reading CaptureVerdict
line_captured r (Whole line) = captured_after r (after_line r line)
line_captured r Long = refused_after r
line_captured r Beyond = refused_after r

-- nothing more is written at the end
abbrev pub capture_done : Reading → Ending Reading CaptureVerdict
capture_done r = record { text = []; verdict = Done; after = r }

-- the header of the file comes before the packets
abbrev pub capture : Fold Reading CaptureVerdict
capture = record {
  head = λ r. file_header;
  outcome = line_captured;
  ending = capture_done;
}

-- the capture of a whole text
abbrev pub capture_of : List ℕ → RunText Reading CaptureVerdict
capture_of text = text_on capture text_limits nothing_read text
