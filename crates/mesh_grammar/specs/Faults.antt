-- Part of what the headline says.
-- Why a line is refused, in words.
use Rattle.std.specs.Prelude.{ℕ, List, ◌++◌, codes}
use Rattle.mesh_grammar.specs.declared.fault.Span.{Span}
use Rattle.mesh_grammar.specs.declared.fault.LineFault.{LineFault}
use Rattle.mesh_grammar.specs.declared.fault.LineFault.TheVariants.{Word, Count, BadAddress, BadNumber, BadText, Late, Early, TwiceNode, TooManyNodes, Unknown, Same}
use Rattle.mesh_grammar.specs.declared.fault.BadWhy.{BadWhy}
use Rattle.mesh_grammar.specs.declared.fault.BadWhy.TheVariants.{Fault, TooLong, TooMuch}
use Rattle.mesh_grammar.specs.Written.{line, label_number}

-- the bytes that a fault is about
abbrev pub at_bytes : Span → List ℕ
at_bytes span = label_number (codes " at bytes ") span.from ++ label_number (codes " to ") span.to

abbrev pub fault_text : LineFault → List ℕ
fault_text (Word span) = codes "no command" ++ at_bytes span
fault_text Count = codes "wrong number of words"
fault_text (BadAddress span) = codes "no address" ++ at_bytes span
fault_text (BadNumber span) = codes "no number" ++ at_bytes span
fault_text (BadText span) = codes "no text" ++ at_bytes span
fault_text Late = codes "node after the first event"
fault_text Early = codes "no node yet"
fault_text (TwiceNode span) = codes "node named twice" ++ at_bytes span
fault_text TooManyNodes = codes "more than 200 nodes"
fault_text (Unknown span) = codes "unknown node" ++ at_bytes span
fault_text Same = codes "link to itself"

unfoldable pub why_text : BadWhy → List ℕ
why_text (Fault fault) = fault_text fault
why_text TooLong = codes "line longer than 600 bytes"
why_text TooMuch = codes "input longer than 16777216 bytes"

-- the last line of a run that a line has ended
unfoldable pub bad_line : ℕ → BadWhy → List ℕ
bad_line number why = line (label_number (codes "bad line ") number ++ codes ": " ++ why_text why)
