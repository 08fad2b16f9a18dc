-- Part of what the headline says.
-- What a command has written and answered.
use Rattle.std.specs.Prelude.{ℕ, ◌≡◌, ◌⊎◌, true, false, Bool, List, Option, IfSome, ⊤}
use Rattle.std.specs.Io.KnownBytes.{Appends, IsAtEnd}
use Rattle.mesh_io.specs.Puts.{AppendsPrefix}
use Rattle.mesh_base.specs.declared.events.Variant.{Variant}
use Rattle.mesh_make.specs.Made.{made_schedule}
use Rattle.mesh_text.specs.Schedule.{opening}
use Rattle.mesh_text.specs.Text.{text_of_input}
use Rattle.mesh_text.specs.declared.verdict.Verdict.TheVariants.{Finished}
use Rattle.mesh_text.specs.EveryWorld.{IsLoopFreeRun, IsAccountedRun}
use Rattle.mesh_text.specs.NamedData.{IsNamedRun}
use Rattle.mesh_run.specs.declared.status.Status.{Status}
use Rattle.mesh_run.specs.declared.status.Status.TheVariants as status
use Rattle.mesh_run.specs.declared.say.Say.TheVariants.{Last}
use Rattle.mesh_run.specs.Outputs.{part, say_by, IsOutput, IsOutputFrom}
use Rattle.mesh_cli.specs.declared.words.Plan.{Plan}
use Rattle.mesh_cli.specs.declared.words.Command.{Command}
use Rattle.mesh_cli.specs.declared.words.Command.TheVariants.{Run, Make, Trial}

-- the schedule that is made
abbrev pub made_by : Plan → List ℕ
made_by plan = made_schedule plan.seed plan.nodes plan.steps

-- what holds for the run of every schedule: in no world that it leads to does a destination have a
-- loop, in each of these worlds every datum is accounted for, and the run's text names each datum
-- that was delivered or dropped
pub record IsSoundRun (variant : Variant) (schedule : List ℕ) : Type 0 where
  pub loop_free : IsLoopFreeRun variant schedule
  pub accounted : IsAccountedRun variant schedule
  pub named : IsNamedRun variant schedule

-- whether the command reads its schedule from the source
abbrev pub reads : Command → Bool
reads (Run variant quiet) = true
reads (Make plan) = false
reads (Trial variant plan) = false

-- a text was written whole, or a prefix of it before a failed write
abbrev pub IsWritten : Option (List ℕ) → Option (List ℕ) → List ℕ → Status → Type 0
IsWritten before now text status.Done = Appends before now text
IsWritten before now text status.Usage = ⊥
IsWritten before now text (status.BadLine n) = ⊥
IsWritten before now text (status.Full n) = ⊥
IsWritten before now text status.ReadFault = ⊥
IsWritten before now text status.WriteFault = AppendsPrefix before now text
IsWritten before now text status.NoMemory = ⊥

-- a command has answered; `left` and `after` are what the source has left before and after it,
-- `before` and `now` what the sink held and holds. `run` writes the text of the schedule that the
-- source has left, `run --quiet` only its last line, `make` the made schedule, and `trial` the last
-- line of the made schedule's text. Each run is sound
abbrev pub IsCommandRun : Command → Option (List ℕ) → Option (List ℕ) → Option (List ℕ)
    → Option (List ℕ) → Status → Type 0
IsCommandRun (Run variant quiet) left after before now s =
    IfSome left
    (λ bytes. IsOutputFrom (say_by quiet) (opening variant) bytes after before now s
    × IsSoundRun variant bytes)
IsCommandRun (Make plan) left after before now s = IsWritten before now (made_by plan) s
IsCommandRun (Trial variant plan) left after before now s =
    IsOutput before now (part Last (text_of_input variant (made_by plan))) s
    × IsSoundRun variant (made_by plan)

-- the command was done, or memory ran out
abbrev pub IsDoneOrShort : Status → Type 0
IsDoneOrShort s = (s ≡ status.Done) ⊎ (s ≡ status.NoMemory)

-- if nothing has failed, the command is done unless its run ends early or memory runs out. `make`
-- takes no memory
abbrev pub Completes : Command → Option (List ℕ) → Status → Type 0
Completes (Run variant quiet) left s =
    IfSome left (λ bytes. (text_of_input variant bytes).verdict ≡ Finished → IsDoneOrShort s)
Completes (Make plan) left s = s ≡ status.Done
Completes (Trial variant plan) left s =
    (text_of_input variant (made_by plan)).verdict ≡ Finished → IsDoneOrShort s

-- if the command reads the source, it has read it to its end
abbrev pub IsReadBy : Command → Option (List ℕ) → Type 0
IsReadBy (Run variant quiet) left = IsAtEnd left
IsReadBy (Make plan) left = ⊤
IsReadBy (Trial variant plan) left = ⊤
