-- The schedule that a run over a channel chooses: lines for `mesh run`.
use Rattle.std.specs.Prelude.{ℕ, List, [], ◌∷◌, ◌++◌, map, Result, Ok, Err}
use Rattle.std.specs.List.{flat_map}
use Rattle.mesh_base.specs.Meshes.{Nodes}
use Rattle.mesh_base.specs.declared.events.Variant.{Variant}
use Rattle.mesh_model.specs.Worlds.{Event}
use Rattle.mesh_grammar.specs.Written.{line}
use Rattle.mesh_grammar.specs.declared.fault.LineFault.{LineFault}
use Rattle.mesh_shell.specs.Pieces.{Piece, Whole}
use Rattle.mesh_text.specs.Schedule as schedule
use Rattle.mesh_text.specs.Schedule.{AcceptedLine, Nothing, Does, Chooses}
use Rattle.mesh_text.specs.Lines.{words_of}
use Rattle.mesh_text.specs.Text.{LineOutcome, On, Refused, Full, pieces_of_input}
use Rattle.mesh_fates.specs.declared.rates.Rates.{Rates}
use Rattle.mesh_channel.specs.Lines.{Line, Passes, Plain}
use Rattle.mesh_channel.specs.Text.{RunState, opening, drawn_by, line_at, outcome_of_piece, next}

-- the lines of these events
abbrev pub event_lines : Nodes → List Event → List (List ℕ)
event_lines mesh es = map (λ e. words_of mesh (Does e)) es

-- a line without events is taken over, unless it is blank
abbrev pub other_lines : Nodes → AcceptedLine → List (List ℕ)
other_lines mesh Nothing = []
other_lines mesh others = words_of mesh others ∷ []

abbrev pub lines_of : Rates → RunState → Line → List (List ℕ)
lines_of rates m (Passes ticks) = event_lines m.run.mesh (drawn_by rates m (Passes ticks)).events
lines_of rates m (Plain (Does e)) =
    event_lines m.run.mesh (drawn_by rates m (Plain (Does e))).events
lines_of rates m (Plain (Chooses count)) =
    event_lines m.run.mesh (drawn_by rates m (Plain (Chooses count))).events
lines_of rates m (Plain others) = other_lines m.run.mesh others

-- the lines for a line of the input that was read: none if it is refused
abbrev pub lines_read : Rates → RunState → Result Line LineFault → List (List ℕ)
lines_read rates m (Ok l) = lines_of rates m l
lines_read rates m (Err fault) = []

-- the lines that replace a line of the input
unfoldable pub lines_chosen : Rates → RunState → Piece → List (List ℕ)
lines_chosen rates m (Whole bytes) = lines_read rates m (line_at m bytes)
lines_chosen rates m others = []

-- the lines for the rest of the input, unless the run has ended
abbrev pub lines_after : LineOutcome → (schedule.RunState → List (List ℕ)) → List (List ℕ)
lines_after (On text n) others = others n
lines_after (Refused why) others = []
lines_after (Full text n e field) others = []

unfoldable pub schedule_from : Rates → RunState → List Piece → List (List ℕ)
schedule_from rates m [] = []
schedule_from rates m (piece ∷ pieces) =
    lines_chosen rates m piece
    ++ lines_after (outcome_of_piece rates m piece)
    (λ n. schedule_from rates (next rates m piece n) pieces)

-- the lines of the schedule that is chosen for an input: up to a line that is refused, or to an
-- event that is refused for a full counter
unfoldable pub chosen_schedule : Rates → Variant → ℕ → List ℕ → List (List ℕ)
chosen_schedule rates variant seed input =
    schedule_from rates (opening variant seed) (pieces_of_input input)
