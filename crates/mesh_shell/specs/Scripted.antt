-- A script as a runner of lines: the outcome of each line, and what its buffer holds then.
use Rattle.std.specs.Prelude.{ℕ, ◌≡◌, List, ◌++◌, Option, Result, Err, IfOk, OnOk, IsErrOf}
use Rattle.std.specs.Io.KnownBytes.{Appends, Keeps}
use Rattle.mesh_io.specs.Buffering.{inner_of, held_by}
use Rattle.mesh_io.specs.declared.sink.Sink as sinks
use Rattle.mesh_shell.specs.Pieces.{Piece}
use Rattle.mesh_shell.specs.Fold.{lines_before, text_from}
use Rattle.mesh_shell.specs.Scripts.{size_of_pieces}
use Rattle.mesh_shell.specs.Outputs.{IsLastRun, IsEndRun}
use Rattle.mesh_shell.specs.Causes.{HasFaultCause}
use Rattle.mesh_shell.specs.declared.fault.Fault.{Fault}
use Rattle.mesh_shell.specs.declared.fault.Fault.TheVariants.{ReadFault, WriteFault}
use Rattle.mesh_shell.specs.declared.script.Script as scripts
use Rattle.mesh_shell.specs.declared.scripted.Scripted.{Scripted}

-- what its buffer's sink holds and then what is gathered, if that is known; and how often that sink
-- has failed
abbrev pub written_by : {S O : Type 0} → sinks.Ghosts O → Scripted S O → Option (List ℕ)
written_by sink s = held_by sink.held s.out.now

abbrev pub faults_by : {S O : Type 0} → sinks.Ghosts O → Scripted S O → ℕ
faults_by sink s = sink.faults (inner_of s.out.now)

-- the references to the script and the buffer are those that they were
pub record AreSame {S O : Type 0} (old new : Scripted S O) : Type 0 where
  pub script : new.script.ghost_name ≡ old.script.ghost_name
  pub out : new.out.ghost_name ≡ old.out.ghost_name

-- these lines were done, and this is their text, whatever lines come after them
pub record HasLed {S V O : Type 0} (script : scripts.Ghosts S V) (sink : sinks.Ghosts O)
    (old : Scripted S O) (lines : List Piece) (new : Scripted S O) : Type 0 where
  pub same : AreSame old new
  pub text : List ℕ
  pub goes : (others : List Piece) → text_from script.fold old.script.now (lines ++ others)
      ≡ lines_before text (text_from script.fold new.script.now others)
  pub grown : Appends (written_by sink old) (written_by sink new) text
  pub leads : script.leads old.script.now (size_of_pieces lines) new.script.now
  pub write : faults_by sink new ≡ faults_by sink old

-- a line has ended the run
pub record HasStopped {S V O : Type 0} (script : scripts.Ghosts S V) (sink : sinks.Ghosts O)
    (old : Scripted S O) (piece : Piece) (new : Scripted S O) (answer : Result V Fault)
    : Type 0 where
  pub same : AreSame old new
  pub told : IsLastRun (script.fold.outcome old.script.now piece) (written_by sink old)
      (written_by sink new) answer
  pub early : IfOk answer (λ v. ¬ (script.is_final v))
  pub write : HasFaultCause WriteFault (faults_by sink old) (faults_by sink new) answer
  pub read : ¬ IsErrOf answer ReadFault

-- the end of the input has ended the run
pub record HasFinished {S V O : Type 0} (script : scripts.Ghosts S V) (sink : sinks.Ghosts O)
    (old new : Scripted S O) (answer : Result V Fault) : Type 0 where
  pub same : AreSame old new
  pub told : IsEndRun (script.fold.ending old.script.now) new.script.now (written_by sink old)
      (written_by sink new) answer
  pub leads : OnOk answer (script.leads old.script.now 0 new.script.now)
  pub sound : OnOk answer (script.is_sound new.script.now)
  pub write : HasFaultCause WriteFault (faults_by sink old) (faults_by sink new) answer
  pub read : ¬ IsErrOf answer ReadFault

-- a write of what was gathered has failed
pub record HasBroken {S V O : Type 0} (sink : sinks.Ghosts O) (old new : Scripted S O)
    (answer : Result V Fault) : Type 0 where
  pub same : AreSame old new
  pub is : answer ≡ Err WriteFault
  pub kept : Keeps (written_by sink old) (written_by sink new)
  pub write : HasFaultCause WriteFault (faults_by sink old) (faults_by sink new) answer

-- a read has failed
pub record IsCut {S V O : Type 0} (old new : Scripted S O) (answer : Result V Fault)
    : Type 0 where
  pub same : new ≡ old
  pub is : answer ≡ Err ReadFault
