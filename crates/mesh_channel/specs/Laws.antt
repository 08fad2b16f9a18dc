-- The statements that this crate proves of its definitions.
use Rattle.std.specs.Prelude.{ℕ, ◌≡◌, ◌≢◌, List, [], ◌∷◌, map, take, ⊤}
use Rattle.std.specs.List.{AllByRecursion}
use Rattle.mesh_base.specs.declared.events.Variant.{Variant}
use Rattle.mesh_model.specs.Worlds.{Event, Idle}
use Rattle.mesh_model.specs.Choices.{IsChoice}
use Rattle.mesh_model.specs.Walks.{Cycle}
use Rattle.mesh_model.specs.Accounts.{Test}
use Rattle.mesh_shell.specs.Pieces.{Whole}
use Rattle.mesh_text.specs.Schedule as schedule
use Rattle.mesh_text.specs.Schedule.{world_of, outcome_at, next_state}
use Rattle.mesh_text.specs.Text as text
use Rattle.mesh_text.specs.EveryWorld.{IsAccountedAfter}
use Rattle.mesh_text.specs.declared.verdict.Verdict.{Verdict}
use Rattle.mesh_text.specs.declared.verdict.Verdict.TheVariants.{Finished, RefusedAt, FullAt}
use Rattle.mesh_fates.specs.declared.rates.Rates.{Rates}
use Rattle.mesh_fates.specs.Channels.{Channel, after_given}
use Rattle.mesh_channel.specs.declared.until.Until.{Until}
use Rattle.mesh_channel.specs.Chosen.{given, chosen}
use Rattle.mesh_channel.specs.Text.{RunText, text_of_input}
use Rattle.mesh_channel.specs.Schedule.{chosen_schedule}
use Rattle.mesh_channel.specs.Runs.{events_of_input, opening_world, world_after}

-- ---- the schedule's run

-- the run of the chosen schedule ends as the run over the channel does: where its input ends, or at
-- a full counter. A line that is refused is not in the schedule
abbrev pub AreAlike : Verdict → Verdict → Type 0
AreAlike Finished Finished = ⊤
AreAlike Finished (RefusedAt n) = ⊤
AreAlike (FullAt n) (FullAt k) = ⊤
AreAlike v u = ⊥

-- the same state, but for the number of lines that were read
abbrev pub AreSameBut : schedule.RunState → schedule.RunState → Type 0
AreSameBut m n = m ≡ record n { lines = m.lines }

-- a run of a schedule writes the same lines as a run over a channel, and ends alike. Its last line
-- is the same if no line has ended the run over the channel; its state is the same, but for the
-- number of lines, unless a full counter has ended that run
pub record IsReplay (r : text.RunText) (w : RunText) : Type 0 where
  pub lines : r.lines ≡ w.lines
  pub verdict : AreAlike r.verdict w.verdict
  pub last : w.verdict ≡ Finished → r.last ≡ w.last
  pub after : ((n : ℕ) → w.verdict ≢ FullAt n) → AreSameBut r.after w.after.run

-- the run of the chosen lines, as `mesh run` has it, is a replay
abbrev pub ChosenScheduleIsReplayed : Type 0
ChosenScheduleIsReplayed = (rates : Rates) (variant : Variant) (seed : ℕ) (input : List ℕ)
    → IsReplay
    (text.text_from (schedule.opening variant)
    (map Whole (chosen_schedule rates variant seed input)))
    (text_of_input rates variant seed input)

-- ---- the worlds

-- the world after the last allowed line is the one to which the run's first events, as many as were
-- counted, lead
abbrev pub WorldsAreOfEvents : Type 0
WorldsAreOfEvents = (rates : Rates) (variant : Variant) (seed : ℕ) (input : List ℕ)
    → let w = text_of_input rates variant seed input in
    schedule.world_of w.after.run
    ≡ world_after rates variant seed input w.after.run.sums.events

-- after any number of a run's events no destination's valid routes have a loop
abbrev pub RunsOverChannelsAreLoopFree : Type 0
RunsOverChannelsAreLoopFree =
    (rates : Rates) (variant : Variant) (seed : ℕ) (input : List ℕ) (k d : ℕ)
    → ¬ (Cycle (world_after rates variant seed input k) d)

-- and each datum is accounted for
abbrev pub EachDatumIsAccountedFor : Type 0
EachDatumIsAccountedFor =
    (rates : Rates) (variant : Variant) (seed : ℕ) (input : List ℕ) (t : Test) (k : ℕ)
    → IsAccountedAfter t (opening_world rates variant seed input)
    (take k (events_of_input rates variant seed input))

-- ---- what is chosen

-- a channel that loses and doubles nothing
pub record IsLossless (rates : Rates) : Type 0 where
  pub loss : rates.loss ≡ 0
  pub loss_unicast : rates.loss_unicast ≡ 0
  pub double : rates.double ≡ 0

-- over such a channel no line `lose` or `copy` is chosen: if nothing was left to do before a line,
-- each event that it chooses is a turn, a delivery, a send or a request, and nothing is left to do
-- after it
abbrev pub LosslessChannelLosesNothing : Type 0
LosslessChannelLosesNothing =
    (rates : Rates) (until : Until) (m : schedule.RunState) (c : Channel) → IsLossless rates
    → c.left ≡ []
    → let d = chosen rates until m c in
    AllByRecursion IsChoice d.events × (d.channel.left ≡ [])

-- and no line of the input has another event after its own
abbrev pub LosslessChannelAddsNothing : Type 0
LosslessChannelAddsNothing =
    (rates : Rates) (m : schedule.RunState) (e : Event) (c : Channel) → IsLossless rates
    → c.left ≡ [] → (given rates m e c).events ≡ e ∷ []

-- none of these events is idle in the state after those before it
abbrev pub NoneIsIdle : schedule.RunState → List Event → Type 0
NoneIsIdle m [] = ⊤
NoneIsIdle m (e ∷ es) = (outcome_at m e ≢ Idle) × NoneIsIdle (next_state m e) es

-- no event that a line chooses is idle, if nothing was left to do
abbrev pub ChosenEventsAreNotIdle : Type 0
ChosenEventsAreNotIdle = (rates : Rates) (until : Until) (m : schedule.RunState) (c : Channel)
    → c.left ≡ [] → NoneIsIdle m (chosen rates until m c).events

-- nor is an event that is added after one of the input
abbrev pub AddedEventsAreNotIdle : Type 0
AddedEventsAreNotIdle = (rates : Rates) (m : schedule.RunState) (e : Event) (c : Channel)
    → c.left ≡ [] → let after = after_given rates (world_of m) (outcome_at m e) c in
    NoneIsIdle (next_state m e) after.left
