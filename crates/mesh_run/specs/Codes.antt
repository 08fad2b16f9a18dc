-- What a run answers, and the status with which a process ends.
use Rattle.std.specs.Prelude.{ℕ, Result, Ok, Err}
use Rattle.mesh_shell.specs.declared.fault.Fault.{Fault}
use Rattle.mesh_shell.specs.declared.fault.Fault.TheVariants as fault
use Rattle.mesh_shell.specs.declared.words.WordsError.{WordsError}
use Rattle.mesh_shell.specs.declared.words.WordsError.TheVariants as words
use Rattle.mesh_text.specs.declared.verdict.Verdict.{Verdict}
use Rattle.mesh_text.specs.declared.verdict.Verdict.TheVariants.{Finished, RefusedAt, FullAt}
use Rattle.mesh_run.specs.declared.status.Status.{Status}
use Rattle.mesh_run.specs.declared.status.Status.TheVariants.{Done, Usage, BadLine, Full, ReadFault, WriteFault, NoMemory}

-- what a run answers, by what its script came to
abbrev pub status_of : Result Verdict Fault → Status
status_of (Ok Finished) = Done
status_of (Ok (RefusedAt n)) = BadLine n
status_of (Ok (FullAt n)) = Full n
status_of (Err fault.ReadFault) = ReadFault
status_of (Err fault.WriteFault) = WriteFault
status_of (Err fault.NoMemory) = NoMemory

-- what a run answers if the words of its command line can't be taken: words that aren't text are in
-- none of the program's forms; or memory ran out
abbrev pub status_without_words : WordsError → Status
status_without_words words.NotText = Usage
status_without_words words.NoMemory = NoMemory

-- the status of the process
abbrev pub code_of : Status → ℕ
code_of Done = 0
code_of Usage = 2
code_of (BadLine line) = 3
code_of (Full line) = 4
code_of ReadFault = 5
code_of WriteFault = 6
code_of NoMemory = 7
