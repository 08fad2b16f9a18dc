-- Causes of faults, from those of the calls below.
use Rattle.std.proofs.Common.{◌≡◌, ◌≢◌, ◌∙◌, ℕ, refl, sym, ap, subst}
use Rattle.mesh_run.specs.Causes.{HasCauseIf, HasStatusCause, HasSourceCause}
use Rattle.mesh_run.proofs.Faults.{cause_as}
use Rattle.mesh_run.specs.declared.status.Status.{Status}
use Rattle.mesh_run.specs.declared.status.Status.TheVariants as status
use Rattle.mesh_state.specs.declared.status.StateStatus.{StateStatus}
use Rattle.mesh_state.specs.declared.status.StateStatus.TheVariants.{Run}
use Rattle.mesh_state.specs.Causes.{HasReadCause}

-- the answer of a run
run_is : (s t : Status) → Run s ≡ Run t → s ≡ t
run_is s t e = cc

pub read_of_run : (a b : ℕ) (s : Status) → HasSourceCause a b s → HasReadCause a b (Run s)
read_of_run a b s h = record {
  later = h.later;
  failed = λ e. h.failed (run_is s status.ReadFault e);
  none = λ read write. h.none (λ e. read (ap Run e)) (λ e. write (ap Run e));
}

pub write_of_run : (a b : ℕ) (s : Status) → HasStatusCause status.WriteFault a b s → HasCauseIf (Run s ≡ Run status.WriteFault) a b
write_of_run a b s h = cause_as a b (λ e. ap Run e) (λ e. run_is s status.WriteFault e) h

-- the source of a run that is done made no fault
pub read_done : (a b : ℕ) (s : Status) (r : StateStatus) → s ≡ status.Done → r ≢ Run status.ReadFault → HasSourceCause a b s → HasReadCause a b r
read_done a b s r done other h = record {
  later = h.later;
  failed = λ e. absurd (other e);
  none = λ read write. h.none (λ e. let clash : status.Done ≡ status.ReadFault = sym done ∙ e in cc) (λ e. let clash : status.Done ≡ status.WriteFault = sym done ∙ e in cc);
}

-- nor the sink
pub unwritten : (a b : ℕ) (s : Status) → s ≡ status.Done → HasStatusCause status.WriteFault a b s → b ≡ a
unwritten a b s done h = h.none (λ e. let clash : status.Done ≡ status.WriteFault = sym done ∙ e in cc)

-- a source whose fault is answered before a run
pub read_before : {A : Type 0} (a b : ℕ) → A → HasCauseIf A a b → HasReadCause a b (Run status.ReadFault)
read_before a b fault h = record { later = h.later; failed = λ e. h.failed fault; none = λ read write. absurd (read refl) }

-- one that made none before a run
pub read_unfailed : {A : Type 0} (a b : ℕ) (r : StateStatus) → ¬ A → r ≢ Run status.ReadFault → HasCauseIf A a b → HasReadCause a b r
read_unfailed a b r not other h = record { later = h.later; failed = λ e. absurd (other e); none = λ read write. h.none not }

-- nor before one that is answered
pub read_behind : {A : Type 0} (a b c : ℕ) (s : Status) → ¬ A → HasCauseIf A a b → HasSourceCause b c s → HasReadCause a c (Run s)
read_behind a b c s not h run = subst (λ n. HasReadCause n c (Run s)) (h.none not) (read_of_run b c s run)
