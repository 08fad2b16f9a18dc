-- Part of what the headline says.
-- When a run answers a fault of its source or its sink; any other answer means neither failed.
use Rattle.std.specs.Prelude.{ℕ, ◌≡◌, ◌≢◌, ◌≤◌, Result, IsErrOf}
use Rattle.mesh_io.specs.Cause.{Rose}
use Rattle.mesh_run.specs.declared.stop.Stop.{Stop}
use Rattle.mesh_run.specs.declared.stop.Stop.TheVariants as stop
use Rattle.mesh_run.specs.declared.status.Status.{Status}
use Rattle.mesh_run.specs.declared.status.Status.TheVariants as status

-- a count of faults rose if it fails, and otherwise is what it was
pub record HasCauseIf (fails : Type 0) (before now : ℕ) : Type 0 where
  pub later : before ≤ now
  pub failed : fails → Rose before now
  pub none : ¬ fails → now ≡ before

-- the sink's count of faults rose if a line answers WriteFault, and otherwise is what it was
abbrev pub HasStopCause : {T : Type 0} → ℕ → ℕ → Result T Stop → Type 0
HasStopCause before now result = HasCauseIf (IsErrOf result stop.WriteFault) before now

-- a count of faults rose if a run answers this fault, and otherwise is what it was
abbrev pub HasStatusCause : Status → ℕ → ℕ → Status → Type 0
HasStatusCause fault before now s = HasCauseIf (s ≡ fault) before now

-- the same for the source of a run: if a read failed, and then the write of what was gathered
-- before it failed too, the run answers the sink's fault
pub record HasSourceCause (before now : ℕ) (s : Status) : Type 0 where
  pub later : before ≤ now
  pub failed : s ≡ status.ReadFault → Rose before now
  pub none : s ≢ status.ReadFault → s ≢ status.WriteFault → now ≡ before
