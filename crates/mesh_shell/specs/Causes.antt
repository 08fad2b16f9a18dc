-- When a run answers a fault of its source or its sink: if there was one, and only then.
use Rattle.std.specs.Prelude.{ℕ, ◌≡◌, ◌≤◌, Result, IsErrOf}
use Rattle.mesh_io.specs.Cause.{Rose}
use Rattle.mesh_shell.specs.declared.fault.Fault.{Fault}
use Rattle.mesh_shell.specs.declared.fault.Fault.TheVariants.{ReadFault, WriteFault}

-- a count of faults rose if this fault is answered, and is otherwise what it was
pub record HasFaultCause {T : Type 0} (fault : Fault) (before now : ℕ) (result : Result T Fault)
    : Type 0 where
  pub later : before ≤ now
  pub failed : IsErrOf result fault → Rose before now
  pub none : ¬ IsErrOf result fault → now ≡ before

-- the same for the source of a run, except that if a read failed, and after it a write of what was
-- gathered before, the sink's fault is answered
pub record HasSourceCause {T : Type 0} (before now : ℕ) (result : Result T Fault) : Type 0 where
  pub later : before ≤ now
  pub failed : IsErrOf result ReadFault → Rose before now
  pub none : ¬ IsErrOf result ReadFault → ¬ IsErrOf result WriteFault → now ≡ before
