-- A run over a channel between two lines, as the program has it, and what is written for one line.
use Rattle.std.specs.Prelude.{ℕ, ◌≡◌, ◌≢◌, ◌≤◌, ◌<◌, ◌+◌, ◌^◌, ◌⊎◌, true, false, List, [], Option, Some, None, Result, Ok, Err, OnOk, length}
use Rattle.mesh_base.specs.Bounds.{most_steps}
use Rattle.mesh_base.specs.Members.{member_list}
use Rattle.mesh_base.specs.declared.limits.TheConstants.{MOST_NODES}
use Rattle.mesh_base.specs.declared.events.Air.{Air}
use Rattle.mesh_base.specs.declared.events.Cast.{Cast}
use Rattle.mesh_base.specs.declared.events.Cast.TheVariants.{Nothing, One}
use Rattle.mesh_base.specs.declared.events.Done.{Done}
use Rattle.mesh_model.specs.Worlds.{Event}
use Rattle.mesh_run.specs.RunStates.{IsAnswer}
use Rattle.mesh_shell.specs.Pieces.{Whole}
use Rattle.mesh_shell.specs.Scripts.{size_of_line}
use Rattle.mesh_text.specs.Schedule as schedule
use Rattle.mesh_run.specs.Outputs.{says_lines}
use Rattle.mesh_run.specs.Runs.{IsLineRun}
use Rattle.mesh_run.specs.declared.stop.Stop.{Stop}
use Rattle.mesh_fates.specs.declared.rates.Rates.{Rates}
use Rattle.mesh_fates.specs.Channels.{Channel, decided}
use Rattle.mesh_fates.specs.Left.{IsNumbered}
use Rattle.mesh_channel.specs.Choices.{Choice, Chosen}
use Rattle.mesh_channel.specs.Choices as choices
use Rattle.mesh_channel.specs.Text.{RunState, outcome_of_piece, channel_after}
use Rattle.mesh_channel.specs.Room.{HasFewCopies, CanLead}
use Rattle.mesh_channel.specs.declared.channeled.Channeled.{Channeled}

abbrev pub run_state_of : Channeled → RunState
run_state_of p = record { run = p.point; channel = p.channel }

-- this run, moved to another state
abbrev pub moved : Channeled → RunState → Channeled
moved p n = record p { point = n.run; channel = n.channel }

-- the choice of an event, or of none, with the channel after it
abbrev pub choice_of : Option Event → Channel → Choice
choice_of None c = choices.Nothing c
choice_of (Some e) c = Chosen e c

-- after a choice nothing is left to do; or an event is chosen that loses or doubles a copy with a
-- number from 1 on, and no more is left than before
abbrev pub IsLeftBehind : Channel → Option Event → Channel → Type 0
IsLeftBehind c None k = k.left ≡ []
IsLeftBehind c (Some e) k =
    (k.left ≡ []) ⊎ (IsNumbered e × (length k.left ≤ length c.left))

-- ---- one event

-- the same, in the form of an answer for several events, whose number is left out
abbrev pub counted_of : {T : Type 0} → Result T Stop → Result ℕ Stop
counted_of (Ok done) = Ok 0
counted_of (Err stop) = Err stop

-- an event that leads from state m to state n has this answer
pub record IsAnswerOf (m : schedule.RunState) (e : Event) (n : schedule.RunState) (done : Done)
    : Type 0 where
  pub packet : List ℕ
  pub answer : IsAnswer m e done n packet
  pub nodes : length m.mesh ≤ MOST_NODES
  pub steps : m.steps < most_steps
  pub copies : HasFewCopies m

-- this is the answer of some event
pub record HasAnswer (done : Done) : Type 0 where
  pub before : schedule.RunState
  pub after : schedule.RunState
  pub event : Event
  pub is : IsAnswerOf before event after done

-- what is decided of the copies of a cast, by what the event's answer says of the cast
abbrev pub decided_in_air : Rates → Cast → Air → Channel → Channel
decided_in_air rates Nothing air c = c
decided_in_air rates (One y) air c =
    let count = length (member_list air.to) in
    decided rates true count air.first (air.first + count) c
decided_in_air rates others air c =
    let count = length (member_list air.to) in
    decided rates false count air.first (air.first + count) c

-- the copies of a cast, if it made any, are numbered from 1 on, and the first number is below 2^60
abbrev pub HasNumbers : Cast → Air → Type 0
HasNumbers cast air =
    cast ≢ Nothing → length (member_list air.to) ≢ 0 → (1 ≤ air.first) × (air.first < 2 ^ 60)

-- ---- one line

-- what was written and answered for a line that led the run from p to q, with only its state
-- changed
pub record IsRunOfLine (p q : Channeled) (bytes : List ℕ) (before now : Option (List ℕ))
    (result : Result (Unit {0}) Stop) : Type 0 where
  pub comes : IsLineRun (says_lines p.say) p.point
      (outcome_of_piece p.rates (run_state_of p) (Whole bytes)) q.point before now result
  pub only : q ≡ moved p (run_state_of q)
  pub channel : OnOk result (q.channel ≡ channel_after p.rates (run_state_of p) (Whole bytes))
  pub led : OnOk result (CanLead p (size_of_line bytes) q)
