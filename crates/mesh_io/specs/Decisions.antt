-- When the bytes at hand decide what comes next.
use Rattle.std.specs.Prelude.{ℕ, ◌+◌, Bool, ◌||◌, nat_lt, if◌then◌else◌, List, length}
use Rattle.mesh_io.specs.NextLines.{first_line, line_size, NextLine, End, Line, TooLong, TooMuch, next_of}
use Rattle.mesh_io.specs.declared.limits.Limits.{Limits}
use Rattle.mesh_io.specs.declared.decision.Decision.{Decision}
use Rattle.mesh_io.specs.declared.decision.Decision.TheVariants as decision

-- they do if none come after them, if they have an LF, or if they go past a limit
abbrev pub decides : Limits → ℕ → Bool → List ℕ → Bool
decides most given ended bytes =
    ended || (first_line bytes).ends || nat_lt most.line (length bytes)
    || nat_lt most.input (given + length bytes)

abbrev pub decision_by : NextLine → Decision
decision_by End = decision.End
decision_by (Line first) = decision.Line (length first.line) (line_size first)
decision_by TooLong = decision.TooLong
decision_by TooMuch = decision.TooMuch

-- what the bytes at hand decide, after this many that were given
unfoldable pub decision_of : Limits → ℕ → Bool → List ℕ → Decision
decision_of most given ended bytes =
    if decides most given ended bytes then decision_by (next_of most given bytes) else decision.Open

-- which limit a line that is too long goes past first, if the input may have `room` more bytes
abbrev pub decision_past : Limits → ℕ → Decision
decision_past most room = if nat_lt most.line room then decision.TooLong else decision.TooMuch
