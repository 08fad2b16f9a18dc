-- The status of an answer, and the status with which the process ends.
use Rattle.std.specs.Prelude.{ℕ, Result, Ok, Err}
use Rattle.mesh_shell.specs.declared.fault.Fault.{Fault}
use Rattle.mesh_shell.specs.declared.fault.Fault.TheVariants as fault
use Rattle.mesh_capture.specs.declared.status.CaptureVerdict.{CaptureVerdict}
use Rattle.mesh_capture.specs.declared.status.CaptureVerdict.TheVariants as verdict
use Rattle.mesh_shell.specs.declared.words.WordsError.{WordsError}
use Rattle.mesh_shell.specs.declared.words.WordsError.TheVariants as words
use Rattle.mesh_capture.specs.declared.status.CaptureStatus.{CaptureStatus}
use Rattle.mesh_capture.specs.declared.status.CaptureStatus.TheVariants.{Done, Usage, BadLine, ReadFault, WriteFault, NoMemory}

abbrev pub status_of : Result CaptureVerdict Fault → CaptureStatus
status_of (Ok verdict.Done) = Done
status_of (Ok (verdict.BadLine line)) = BadLine line
status_of (Err fault.ReadFault) = ReadFault
status_of (Err fault.WriteFault) = WriteFault
status_of (Err fault.NoMemory) = NoMemory

-- the status if the command line's words can't be taken: words that aren't text are words too
abbrev pub without_words : WordsError → CaptureStatus
without_words words.NotText = Usage
without_words words.NoMemory = NoMemory

abbrev pub code_of : CaptureStatus → ℕ
code_of Done = 0
code_of Usage = 2
code_of (BadLine line) = 3
code_of ReadFault = 5
code_of WriteFault = 6
code_of NoMemory = 7
