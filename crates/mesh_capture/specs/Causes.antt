-- When a fault of a source or a sink is answered, and that there is none with any other answer.
use Rattle.std.specs.Prelude.{ℕ, ◌≡◌, ◌≢◌, ◌≤◌}
use Rattle.mesh_io.specs.Cause.{Rose}
use Rattle.mesh_capture.specs.declared.status.CaptureStatus.{CaptureStatus}
use Rattle.mesh_capture.specs.declared.status.CaptureStatus.TheVariants as status

-- a count of faults rose if `fails` holds, and is otherwise what it was
pub record HasCauseIf (fails : Type 0) (before now : ℕ) : Type 0 where
  pub later : before ≤ now
  pub failed : fails → Rose before now
  pub none : ¬ fails → now ≡ before

-- the count of faults rose if a capture answers this fault, and is otherwise what it was
abbrev pub HasStatusCause : CaptureStatus → ℕ → ℕ → CaptureStatus → Type 0
HasStatusCause fault before now s = HasCauseIf (s ≡ fault) before now

-- the source's count of faults rose if a capture answers the source's fault, and is what it was if
-- the capture answers no fault at all; if a read failed, and then a write of what was gathered
-- before it, the sink's fault is answered
pub record HasSourceCause (before now : ℕ) (s : CaptureStatus) : Type 0 where
  pub later : before ≤ now
  pub failed : s ≡ status.ReadFault → Rose before now
  pub none : s ≢ status.ReadFault → s ≢ status.WriteFault → now ≡ before
