-- The status with which a process ends.
use Rattle.std.specs.Prelude.{ℕ}
use Rattle.mesh_shell.specs.declared.words.WordsError.{WordsError}
use Rattle.mesh_shell.specs.declared.words.WordsError.TheVariants as words
use Rattle.mesh_router.specs.declared.status.NodeStatus.{NodeStatus}
use Rattle.mesh_router.specs.declared.status.NodeStatus.TheVariants.{Done, Usage, BadLine, Full, ReadFault, WriteFault, NoMemory, LinkFault}

-- the status if the command line's words can't be taken: words that aren't text name no port
abbrev pub without_words : WordsError → NodeStatus
without_words words.NotText = Usage
without_words words.NoMemory = NoMemory

abbrev pub code_of : NodeStatus → ℕ
code_of Done = 0
code_of Usage = 2
code_of (BadLine line) = 3
code_of (Full line) = 4
code_of ReadFault = 5
code_of WriteFault = 6
code_of NoMemory = 7
code_of LinkFault = 8
