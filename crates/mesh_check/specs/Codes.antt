-- The status with which the process ends.
use Rattle.std.specs.Prelude.{ℕ}
use Rattle.mesh_shell.specs.declared.words.WordsError.{WordsError}
use Rattle.mesh_shell.specs.declared.words.WordsError.TheVariants as words
use Rattle.mesh_check.specs.declared.status.CheckStatus.{CheckStatus}
use Rattle.mesh_check.specs.declared.status.CheckStatus.TheVariants.{Yes, No, Usage, BadLine, ReadFault, WriteFault, NoMemory}

-- the status if the command line's words can't be taken: words that aren't text are words too
abbrev pub without_words : WordsError → CheckStatus
without_words words.NotText = Usage
without_words words.NoMemory = NoMemory

abbrev pub code_of : CheckStatus → ℕ
code_of Yes = 0
code_of No = 9
code_of Usage = 2
code_of (BadLine line) = 3
code_of ReadFault = 5
code_of WriteFault = 6
code_of NoMemory = 7
