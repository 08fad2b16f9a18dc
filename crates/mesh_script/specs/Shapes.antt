-- What a line says by itself in the definitions, for what the code reads. A script has commands of
-- its own, C.
use Rattle.std.specs.Prelude.{ℕ, List, Option, Some, None, Result, Ok, Err}
use Rattle.mesh_grammar.specs.declared.fault.LineFault.{LineFault}
use Rattle.mesh_grammar.specs.Words as words
use Rattle.mesh_grammar.specs.Scripts as scripts
use Rattle.mesh_script.specs.declared.shape.Row.{Row}
use Rattle.mesh_script.specs.declared.shape.Shape.{Shape}
use Rattle.mesh_script.specs.Arguments.{all_spanned_of}

-- the definitions' row for the code's, with this word
abbrev pub row_with : {C : Type 0} → List ℕ → Row C → scripts.Row C
row_with word r = record { command = r.command; word = word; form = r.form }

abbrev pub shape_seen : {C : Type 0} → Shape C → scripts.Shape C words.SpannedAddr
shape_seen s = record { command = s.command; arguments = all_spanned_of s.arguments }

-- a blank line says nothing
abbrev pub said_of : {C : Type 0} → Option (Shape C) → Option (scripts.Shape C words.SpannedAddr)
said_of None = None
said_of (Some s) = Some (shape_seen s)

abbrev pub seen_shape : {C : Type 0} → Result (Option (Shape C)) LineFault
    → Result (Option (scripts.Shape C words.SpannedAddr)) LineFault
seen_shape (Ok said) = Ok (said_of said)
seen_shape (Err f) = Err f
