-- Part of what the headline says.
-- A line, read by the table of its script's commands. A script has commands of its own, C.
use Rattle.std.specs.Prelude.{ℕ, List, [], ◌∷◌, Option, Some, None, Result, Ok, Err, if◌then◌else◌}
use Rattle.std.specs.Str.{bytes_eq}
use Rattle.mesh_base.specs.Parts.{parts}
use Rattle.mesh_grammar.specs.declared.fault.LineFault.{LineFault}
use Rattle.mesh_grammar.specs.declared.fault.LineFault.TheVariants.{Word}
use Rattle.mesh_grammar.specs.declared.form.Form.{Form}
use Rattle.mesh_grammar.specs.Words.{SpannedAddr, span_at, next_at, is_blank}
use Rattle.mesh_grammar.specs.Forms.{Arguments, arguments_of}

-- a command of a script: the word that denotes it, and the form of its arguments
pub record Row (C : Type 0) : Type 0 where
  pub command : C
  pub word : List ℕ
  pub form : Form

-- a command with its arguments, which have an A for each address
pub record Shape (C A : Type 0) : Type 0 where
  pub command : C
  pub arguments : Arguments A

-- the first row of this word
abbrev pub row_in : {C : Type 0} → List (Row C) → List ℕ → Option (Row C)
row_in [] word = None
row_in (row ∷ rows) word = if bytes_eq word row.word then Some row else row_in rows word

abbrev pub shape_with : {C : Type 0} → C → Result (Arguments SpannedAddr) LineFault
    → Result (Option (Shape C SpannedAddr)) LineFault
shape_with command (Ok arguments) = Ok (Some (record { command = command; arguments = arguments }))
shape_with command (Err fault) = Err fault

-- what a line says, by the row of its first word and by the words after it
abbrev pub by_row : {C : Type 0} → Option (Row C) → List ℕ → List (List ℕ)
    → Result (Option (Shape C SpannedAddr)) LineFault
by_row None word others = Err (Word (span_at 0 word))
by_row (Some row) word others =
    shape_with row.command (arguments_of row.form (next_at 0 word) others)

abbrev pub by_words : {C : Type 0} → List (Row C) → List (List ℕ)
    → Result (Option (Shape C SpannedAddr)) LineFault
by_words rows [] = Err (Word (span_at 0 []))
by_words rows (word ∷ others) = by_row (row_in rows word) word others

-- what a line says by itself, or its first fault; a blank line says nothing
unfoldable pub shape_by : {C : Type 0} → List (Row C) → List ℕ
    → Result (Option (Shape C SpannedAddr)) LineFault
shape_by rows line = if is_blank line then Ok None else by_words rows (parts 32 line)
