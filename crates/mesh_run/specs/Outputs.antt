-- Part of what the headline says.
-- What a run has written and answered: what the sink held before, and what it holds now. If it
-- isn't known what a sink holds, only the verdict is claimed.
use Rattle.std.specs.Prelude.{ℕ, ◌≡◌, Bool, true, false, if◌then◌else◌, List, [], Option}
use Rattle.std.specs.Io.KnownBytes.{Appends}
use Rattle.mesh_io.specs.Puts.{AppendsPrefix}
use Rattle.mesh_shell.specs.Fold.{RunText, whole}
use Rattle.mesh_shell.specs.Outputs.{IsCutShort}
use Rattle.mesh_text.specs.Schedule.{RunState}
use Rattle.mesh_text.specs.Text.{text_on}
use Rattle.mesh_text.specs.declared.verdict.Verdict.{Verdict}
use Rattle.mesh_text.specs.declared.verdict.Verdict.TheVariants.{Finished, RefusedAt, FullAt}
use Rattle.mesh_run.specs.declared.say.Say.{Say}
use Rattle.mesh_run.specs.declared.say.Say.TheVariants.{All, Last, Faults}
use Rattle.mesh_run.specs.declared.status.Status.{Status}
use Rattle.mesh_run.specs.declared.status.Status.TheVariants.{Done, Usage, BadLine, Full, ReadFault, WriteFault, NoMemory}

-- whether the text of the lines is written
abbrev pub says_lines : Say → Bool
says_lines All = true
says_lines Last = false
says_lines Faults = false

abbrev pub say_by : Bool → Say
say_by quiet = if quiet then Last else All

-- the last line if it reports a fault, and otherwise nothing
abbrev pub fault_line : Verdict → List ℕ → List ℕ
fault_line Finished last = []
fault_line (RefusedAt n) last = last
fault_line (FullAt n) last = last

-- the part of a run that is written: all of it; its last line alone; or that line if it reports a
-- fault, and otherwise nothing
abbrev pub part : {M : Type 0} → Say → RunText M Verdict → RunText M Verdict
part All w = w
part Last w = record w { lines = [] }
part Faults w = record w { lines = []; last = fault_line w.verdict w.last }

-- a run that was to write this text has answered: all of it is written, and the answer is its
-- verdict; or a prefix of it is, and the answer is a fault or a lack of memory
abbrev pub IsOutput : {M : Type 0} → Option (List ℕ) → Option (List ℕ) → RunText M Verdict → Status
    → Type 0
IsOutput before now w Done = (w.verdict ≡ Finished) × Appends before now (whole w)
IsOutput before now w (BadLine n) = (w.verdict ≡ RefusedAt n) × Appends before now (whole w)
IsOutput before now w (Full n) = (w.verdict ≡ FullAt n) × Appends before now (whole w)
IsOutput before now w ReadFault = AppendsPrefix before now (whole w)
IsOutput before now w WriteFault = AppendsPrefix before now (whole w)
IsOutput before now w NoMemory = AppendsPrefix before now (whole w)
IsOutput before now w Usage = ⊥

-- a run of these bytes has answered, and the source has this left. After a failed read, what was
-- written is the text of the lines that were read whole. `text` says what an input comes to
abbrev pub IsOutputOf : {M : Type 0} → Say → (List ℕ → RunText M Verdict) → List ℕ
    → Option (List ℕ) → Option (List ℕ) → Option (List ℕ) → Status → Type 0
IsOutputOf say text bytes left before now Done = IsOutput before now (part say (text bytes)) Done
IsOutputOf say text bytes left before now (BadLine n) =
    IsOutput before now (part say (text bytes)) (BadLine n)
IsOutputOf say text bytes left before now (Full n) =
    IsOutput before now (part say (text bytes)) (Full n)
IsOutputOf say text bytes left before now ReadFault =
    IsCutShort (λ input. part say (text input)) bytes left before now
IsOutputOf say text bytes left before now WriteFault =
    IsOutput before now (part say (text bytes)) WriteFault
IsOutputOf say text bytes left before now NoMemory =
    IsOutput before now (part say (text bytes)) NoMemory
IsOutputOf say text bytes left before now Usage = ⊥

-- the same for the run of a schedule that starts from this state
abbrev pub IsOutputFrom : Say → RunState → List ℕ → Option (List ℕ) → Option (List ℕ)
    → Option (List ℕ) → Status → Type 0
IsOutputFrom say m bytes left before now s = IsOutputOf say (text_on m) bytes left before now s
