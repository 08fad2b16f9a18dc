-- The text of a run over a channel, and its verdict, from the bytes of its input.
use Rattle.std.specs.Prelude.{ℕ, List, [], ◌∷◌, Result, Ok, Err, is_some}
use Rattle.mesh_base.specs.declared.events.Variant.{Variant}
use Rattle.mesh_model.specs.Worlds.{Event}
use Rattle.mesh_grammar.specs.declared.fault.LineFault.{LineFault}
use Rattle.mesh_grammar.specs.declared.fault.BadWhy.TheVariants.{Fault}
use Rattle.mesh_io.specs.NextLines.{schedule_limits}
use Rattle.mesh_shell.specs.Pieces.{Piece, Whole}
use Rattle.mesh_shell.specs.Fold as shell
use Rattle.mesh_text.specs.Schedule as schedule
use Rattle.mesh_text.specs.Schedule.{AcceptedLine, Does, Chooses, with_world, with_line_read}
use Rattle.mesh_text.specs.Lines.{done_line}
use Rattle.mesh_text.specs.Auto.{outcome_of_events}
use Rattle.mesh_text.specs.Text as text
use Rattle.mesh_text.specs.Text.{LineOutcome, On, Refused, outcome_by_events}
use Rattle.mesh_text.specs.declared.verdict.Verdict.{Verdict}
use Rattle.mesh_text.specs.declared.verdict.Verdict.TheVariants.{Finished}
use Rattle.mesh_fates.specs.declared.rates.Rates.{Rates}
use Rattle.mesh_fates.specs.Channels as channels
use Rattle.mesh_fates.specs.Channels.{Channel}
use Rattle.mesh_channel.specs.Choices.{tick_behind}
use Rattle.mesh_channel.specs.declared.until.Until.TheVariants.{Events}
use Rattle.mesh_channel.specs.Chosen.{Drawn, none, given, chosen}
use Rattle.mesh_channel.specs.Lines.{Line, Passes, Plain, channel_line}

-- a state of a run over a channel: that of the run, and the channel
pub record RunState : Type 0 where
  pub run : schedule.RunState
  pub channel : Channel

-- the state before the first line
abbrev pub opening : Variant → ℕ → RunState
opening variant seed = record {
  run = schedule.opening variant;
  channel = channels.opening seed;
}

-- ---- one line

-- the events of a line, and the channel after them
abbrev pub drawn_by : Rates → RunState → Line → Drawn
drawn_by rates m (Passes ticks) =
    chosen rates (tick_behind m.channel.tick ticks) m.run m.channel
drawn_by rates m (Plain (Does e)) = given rates (with_world m.run) e m.channel
drawn_by rates m (Plain (Chooses count)) = chosen rates (Events count) m.run m.channel
drawn_by rates m (Plain others) = none m.channel

-- what these events come to, each written as a line of its own; if there are none, the run isn't
-- started
abbrev pub outcome_of_drawn : schedule.RunState → List Event → LineOutcome
outcome_of_drawn m [] = On [] (with_line_read m)
outcome_of_drawn m (e ∷ es) = outcome_by_events (outcome_of_events (with_world m) (e ∷ es))

-- what an allowed line comes to: its events; or, if it is a line without events, what it comes to
-- in a schedule
abbrev pub outcome_of_line : Rates → RunState → Line → LineOutcome
outcome_of_line rates m (Passes ticks) =
    outcome_of_drawn m.run (drawn_by rates m (Passes ticks)).events
outcome_of_line rates m (Plain (Does e)) =
    outcome_of_drawn m.run (drawn_by rates m (Plain (Does e))).events
outcome_of_line rates m (Plain (Chooses count)) =
    outcome_of_drawn m.run (drawn_by rates m (Plain (Chooses count))).events
outcome_of_line rates m (Plain others) = text.outcome_of_line m.run others

abbrev pub outcome_of_read : Rates → RunState → Result Line LineFault → LineOutcome
outcome_of_read rates m (Ok l) = outcome_of_line rates m l
outcome_of_read rates m (Err fault) = Refused (Fault fault)

abbrev pub line_at : RunState → List ℕ → Result Line LineFault
line_at m bytes = channel_line m.run.mesh (is_some m.run.world) bytes

-- what a line of the input comes to in a state
unfoldable pub outcome_of_piece : Rates → RunState → Piece → LineOutcome
outcome_of_piece rates m (Whole bytes) = outcome_of_read rates m (line_at m bytes)
outcome_of_piece rates m others = text.outcome_of_piece m.run others

-- the channel after a line
abbrev pub channel_by : Rates → RunState → Result Line LineFault → Channel
channel_by rates m (Ok l) = (drawn_by rates m l).channel
channel_by rates m (Err fault) = m.channel

unfoldable pub channel_after : Rates → RunState → Piece → Channel
channel_after rates m (Whole bytes) = channel_by rates m (line_at m bytes)
channel_after rates m others = m.channel

-- the state after a line that has led the run to state n
abbrev pub next : Rates → RunState → Piece → schedule.RunState → RunState
next rates m piece n = record { run = n; channel = channel_after rates m piece }

-- ---- all lines

-- what a run over a channel writes: its lines and its last line; what it came to; and the state
-- after its last allowed line
abbrev pub RunText : Type 0
RunText = shell.RunText RunState Verdict

-- at the end of the input
abbrev pub ending : RunState → shell.Ending RunState Verdict
ending m = record { text = done_line m.run; verdict = Finished; after = m }

-- the same text or end, with the next state made from that of the run
abbrev pub outcome_with : (schedule.RunState → RunState) → shell.Outcome schedule.RunState Verdict
    → shell.Outcome RunState Verdict
outcome_with next_of (shell.On text n) = shell.On text (next_of n)
outcome_with next_of (shell.Ended text last v) = shell.Ended text last v

-- how the run goes on after a line that comes to this, or ends: as in a schedule
abbrev pub outcome_in_run : Rates → RunState → Piece → LineOutcome → shell.Outcome RunState Verdict
outcome_in_run rates m piece k =
    outcome_with (next rates m piece) (text.outcome_in_run m.run k)

-- a run over a channel: nothing is written before the text of its first line
abbrev pub channel_run : Rates → shell.Fold RunState Verdict
channel_run rates = record {
  head = λ m. [];
  outcome = λ m piece. outcome_in_run rates m piece (outcome_of_piece rates m piece);
  ending = ending;
}

-- the run of these lines from a state on
abbrev pub text_from : Rates → RunState → List Piece → RunText
text_from rates m pieces = shell.text_from (channel_run rates) m pieces

-- what a run over a channel writes for an input from a state on, and what it comes to
abbrev pub text_on : Rates → RunState → List ℕ → RunText
text_on rates m input = shell.text_on (channel_run rates) schedule_limits m input

-- the same from the opening state on
unfoldable pub text_of_input : Rates → Variant → ℕ → List ℕ → RunText
text_of_input rates variant seed input = text_on rates (opening variant seed) input
