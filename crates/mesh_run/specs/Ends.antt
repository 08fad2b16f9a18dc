-- The end of a run at a line that wasn't done.
use Rattle.std.specs.Prelude.{ℕ, ◌≡◌, ◌+◌, ◌<◌, ◌≤◌, List, Option, Some, None, Result, Ok, Err, IsErrOf, length, ⊤}
use Rattle.std.specs.Io.KnownBytes.{Appends}
use Rattle.mesh_base.specs.Bounds.{most_lines}
use Rattle.mesh_grammar.specs.Faults.{bad_line}
use Rattle.mesh_grammar.specs.declared.fault.BadWhy.{BadWhy}
use Rattle.mesh_grammar.specs.declared.fault.BadWhy.TheVariants.{Fault, TooLong, TooMuch}
use Rattle.mesh_io.specs.Cause.{Rose}
use Rattle.mesh_io.specs.Puts.{AppendsPrefix}
use Rattle.mesh_meaning.specs.Events.{event_of}
use Rattle.mesh_model.specs.InMesh.{IsEvent}
use Rattle.mesh_shell.specs.declared.fault.Fault.{Fault as ShellFault}
use Rattle.mesh_shell.specs.declared.fault.Fault.TheVariants.{ReadFault, WriteFault, NoMemory}
use Rattle.mesh_shell.specs.declared.limit.Limit.{Limit}
use Rattle.mesh_shell.specs.declared.limit.Limit.TheVariants.{Line, Input}
use Rattle.mesh_text.specs.Lines.{full_line}
use Rattle.mesh_text.specs.Schedule.{RunState}
use Rattle.mesh_text.specs.declared.verdict.Verdict.{Verdict}
use Rattle.mesh_text.specs.declared.verdict.Verdict.TheVariants.{RefusedAt, FullAt}
use Rattle.mesh_run.specs.declared.stop.Stop.{Stop}
use Rattle.mesh_run.specs.declared.stop.Stop.TheVariants as stop

-- why a line that goes past a limit is refused
abbrev pub why_past : Limit → BadWhy
why_past Line = TooLong
why_past Input = TooMuch

-- the last line is written and this is the verdict; or the sink's fault is answered, and a prefix
-- of the line is written
abbrev pub IsLastWritten : List ℕ → Verdict → Option (List ℕ) → Option (List ℕ)
    → Result (Option Verdict) ShellFault → Type 0
IsLastWritten text v before now (Ok None) = ⊥
IsLastWritten text v before now (Ok (Some w)) = (w ≡ v) × Appends before now text
IsLastWritten text v before now (Err ReadFault) = ⊥
IsLastWritten text v before now (Err WriteFault) = AppendsPrefix before now text
IsLastWritten text v before now (Err NoMemory) = ⊥

-- a last line can report what stopped the run in this state
abbrev pub CanBeTold : RunState → Result (Unit {0}) Stop → Type 0
CanBeTold n (Ok done) = ⊤
CanBeTold n (Err (stop.BadLine f)) = n.lines < most_lines
CanBeTold n (Err (stop.Full e node field)) =
    (n.lines < most_lines) × IsEvent (length n.mesh) (event_of e)
CanBeTold n (Err stop.WriteFault) = ⊤
CanBeTold n (Err stop.NoMemory) = ⊤

-- after a line with this result, in state n, the run goes on or has ended; if the line was refused
-- or a counter was full, it ends with its last line, or with a prefix of it after a failed write
abbrev pub IsSettled : RunState → Option (List ℕ) → Option (List ℕ) → Result (Unit {0}) Stop
    → Result (Option Verdict) ShellFault → Type 0
IsSettled n before now (Ok done) result = (result ≡ Ok None) × (now ≡ before)
IsSettled n before now (Err (stop.BadLine f)) result =
    IsLastWritten (bad_line (n.lines + 1) (Fault f)) (RefusedAt (n.lines + 1)) before now result
IsSettled n before now (Err (stop.Full e node field)) result =
    IsLastWritten (full_line n.mesh (n.lines + 1) (event_of e) field) (FullAt (n.lines + 1))
    before now result
IsSettled n before now (Err stop.WriteFault) result = (result ≡ Err WriteFault) × (now ≡ before)
IsSettled n before now (Err stop.NoMemory) result = (result ≡ Err NoMemory) × (now ≡ before)

-- the sink's fault is answered if it stopped the line, or if the last line could not be written;
-- with any other answer the sink did not fail
pub record HasSettledCause (before now : ℕ) (did : Result (Unit {0}) Stop)
    (result : Result (Option Verdict) ShellFault) : Type 0 where
  pub later : before ≤ now
  pub told : IsErrOf did stop.WriteFault → IsErrOf result WriteFault
  pub failed : IsErrOf result WriteFault → ¬ IsErrOf did stop.WriteFault → Rose before now
  pub none : ¬ IsErrOf result WriteFault → now ≡ before
