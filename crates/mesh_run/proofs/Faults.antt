-- Counts of faults, and what they are the cause of.
use Rattle.std.proofs.Common.{Some, ◌≡◌, ◌≢◌, ◌≤◌, ◌+◌, ◌-◌, ◌^◌, min, ℕ, refl, subst, arith}
use Rattle.mesh_io.specs.Cause.{Rose}
use Rattle.std.specs.Prelude.{Err, IsErrOf}
use Rattle.mesh_shell.proofs.Faults.{err_as}
use Rattle.mesh_run.specs.Causes.{HasCauseIf, HasSourceCause}
use Rattle.mesh_run.specs.declared.status.Status.{Status}
use Rattle.mesh_run.specs.declared.status.Status.TheVariants as status

-- a count that rose after it didn't fall has risen
pub rose_later : (a b c : ℕ) → a ≤ b → min (b + 1) (2 ^ 64 - 1) ≤ c → min (a + 1) (2 ^ 64 - 1) ≤ c
rose_later a b c le h = omega arith

-- the same under another name
pub cause_as : {A B : Type 0} (a b : ℕ) → (A → B) → (B → A) → HasCauseIf A a b → HasCauseIf B a b
cause_as a b to from h = record { later = h.later; failed = λ y. h.failed (from y); none = λ not. h.none (λ x. not (to x)) }

-- where nothing has failed before
pub cause_after : {A : Type 0} (a b c : ℕ) → b ≡ a → HasCauseIf A b c → HasCauseIf A a c
cause_after {A} a b c same h = subst (λ n. HasCauseIf A n c) same h

-- where nothing fails then
pub cause_before : {A : Type 0} (a b c : ℕ) → c ≡ b → HasCauseIf A a b → HasCauseIf A a c
cause_before a b c same h = record { later = let le = h.later in omega arith; failed = λ x. let rose = h.failed x in omega arith; none = λ not. let is = h.none not in omega arith }

-- nothing has failed
pub no_cause : {A : Type 0} (a b : ℕ) → b ≡ a → ¬ A → HasCauseIf A a b
no_cause a b same not = record { later = omega arith; failed = λ x. absurd (not x); none = λ other. same }

-- something has
pub a_cause : {A : Type 0} (a b : ℕ) → a ≤ b → Rose a b → A → HasCauseIf A a b
a_cause a b le rose x = record { later = le; failed = λ y. rose; none = λ not. absurd (not x) }

-- an answer that there is
pub unsome : {T : Type 0} {x y : T} → Some x ≡ Some y → x ≡ y
unsome h = cc

pub cause_of_err : {A B E : Type 0} (x y : E) (a b : ℕ) → HasCauseIf (IsErrOf {T = A} (Err x) y) a b → HasCauseIf (IsErrOf {T = B} (Err x) y) a b
cause_of_err {A} {B} {E} x y a b h = cause_as a b (λ e. err_as {A = A} {B = B} x y e) (λ e. err_as {A = B} {B = A} x y e) h

-- a source whose fault is answered
pub source_told : (a b : ℕ) (s : Status) → HasCauseIf (s ≡ status.ReadFault) a b → HasSourceCause a b s
source_told a b s h = record { later = h.later; failed = h.failed; none = λ read write. h.none read }

-- and one whose fault may stand behind that of a sink
pub source_behind : (a b : ℕ) → a ≤ b → HasSourceCause a b status.WriteFault
source_behind a b le = record { later = le; failed = λ e. cc; none = λ read write. absurd (write refl) }

pub source_done : (a b : ℕ) (s : Status) → s ≡ status.Done → HasSourceCause a b s → HasSourceCause a b status.Done
source_done a b s done h = subst (λ x. HasSourceCause a b x) done h

-- a source that was not read
pub source_apart : (a : ℕ) (s : Status) → s ≢ status.ReadFault → HasSourceCause a a s
source_apart a s apart = record { later = omega arith; failed = λ e. absurd (apart e); none = λ read write. refl }

-- the same of the counts that are equal to these
pub source_seen : (a b x y : ℕ) (s : Status) → a ≡ x → b ≡ y → HasSourceCause a b s → HasSourceCause x y s
source_seen a b x y s p q h = subst (λ n. HasSourceCause n y s) p (subst (λ n. HasSourceCause a n s) q h)
