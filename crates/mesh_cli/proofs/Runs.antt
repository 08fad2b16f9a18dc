-- What the run of any schedule comes to.
use Rattle.std.proofs.Common.{◌≡◌, ◌≢◌, ℕ, Bool, false, List, Option, Some, None, IfSome, refl, sym, subst, ◌∙◌, inl, inr}
use Rattle.mesh_base.specs.declared.events.Variant.{Variant}
use Rattle.mesh_io.specs.Cause.{Rose}
use Rattle.mesh_text.specs.Schedule.{RunState, opening}
use Rattle.mesh_text.specs.Text.{RunText, text_on, text_of_input}
use Rattle.mesh_text.specs.declared.verdict.Verdict.TheVariants.{Finished}
use Rattle.mesh_text.proofs.NamedRuns.{each_datum_is_named}
use Rattle.mesh_text.proofs.RunLaws.{runs_are_loop_free, each_datum_is_accounted_for}
use Rattle.mesh_make.proofs.Allowed.{made_allowed}
use Rattle.mesh_run.specs.declared.status.Status.{Status}
use Rattle.mesh_run.specs.declared.status.Status.TheVariants as status
use Rattle.mesh_run.specs.declared.say.Say.{Say}
use Rattle.mesh_run.specs.declared.say.Say.TheVariants.{All, Last, Faults}
use Rattle.mesh_run.specs.Outputs.{part, say_by, IsOutput, IsOutputFrom}
use Rattle.mesh_cli.specs.declared.words.Plan.{Plan}
use Rattle.mesh_cli.specs.declared.words.Command.{Command}
use Rattle.mesh_cli.specs.declared.words.Command.TheVariants.{Run, Make, Trial}
use Rattle.mesh_cli.specs.Words.{IsAllowed}
use Rattle.mesh_cli.specs.Commands.{IsSoundRun, IsCommandRun, IsWritten, IsDoneOrShort, Completes, reads, made_by}

no_bad : (c : Command) (left after a b : Option (List ℕ)) (s : Status) (n : ℕ) → IsAllowed c → IsCommandRun c left after a b s → reads c ≡ false → s ≢ status.BadLine n
no_bad (Run variant quiet) left after a b s n allowed t reads_not e = cc
no_bad (Make plan) left after a b s n allowed t reads_not e = let P : Status → Type 0 = λ answer. IsWritten a b (made_by plan) answer in subst P e t
no_bad (Trial variant plan) left after a b s n allowed t reads_not e =
    let P : Status → Type 0 = λ answer. IsCommandRun (Trial variant plan) left after a b answer in
    made_allowed variant plan.seed plan.nodes plan.steps n allowed.0 allowed.1 allowed.2 allowed.3 ((subst P e t).0).0

-- no line of a made schedule is refused
pub no_command_bad : (command : Option Command) (c : Command) (left after a b : Option (List ℕ)) (s : Status) → Some c ≡ command → IsAllowed c → IsCommandRun c left after a b s
    → IfSome command (λ x. reads x ≡ false → (n : ℕ) → s ≢ status.BadLine n)
no_command_bad command c left after a b s e allowed t =
    let P : Option Command → Type 0 = λ o. IfSome o (λ x. reads x ≡ false → (n : ℕ) → s ≢ status.BadLine n) in
    subst P e (λ reads_not n. no_bad c left after a b s n allowed t reads_not)

every_run : (variant : Variant) (schedule : List ℕ) → IsSoundRun variant schedule
every_run variant schedule = record {
  loop_free = λ k d. runs_are_loop_free variant schedule k d;
  accounted = each_datum_is_accounted_for variant schedule;
  named = each_datum_is_named variant schedule;
}

-- what was told of a run, and that it is sound
pub runs_so : (variant : Variant) (quiet : Bool) (left after a b : Option (List ℕ)) (s : Status) → IfSome left (λ bytes. IsOutputFrom (say_by quiet) (opening variant) bytes after a b s)
    → IsCommandRun (Run variant quiet) left after a b s
runs_so variant quiet None after a b s t = tt
runs_so variant quiet (Some bytes) after a b s t = (t, every_run variant bytes)

-- the same of a made schedule
pub trial_so : (variant : Variant) (plan : Plan) (left after a b : Option (List ℕ)) (s : Status) → IsOutput a b (part Last (text_of_input variant (made_by plan))) s
    → IsCommandRun (Trial variant plan) left after a b s
trial_so variant plan left after a b s t = (t, every_run variant (made_by plan))

-- ---- completeness

-- where nothing has failed, and each line is allowed and no counter full, a run is done, unless memory runs out
run_completes : (say : Say) (w : RunText) (a b : Option (List ℕ)) (s : Status) → (s ≡ status.ReadFault → ⊥) → (s ≡ status.WriteFault → ⊥) → IsOutput a b (part say w) s → w.verdict ≡ Finished → IsDoneOrShort s
run_completes say w a b status.Done read write t finished = inl refl
run_completes All w a b (status.BadLine n) read write t finished = absurd (let clash = sym finished ∙ t.0 in let P : ⊥ = cc in P)
run_completes Last w a b (status.BadLine n) read write t finished = absurd (let clash = sym finished ∙ t.0 in let P : ⊥ = cc in P)
run_completes Faults w a b (status.BadLine n) read write t finished = absurd (let clash = sym finished ∙ t.0 in let P : ⊥ = cc in P)
run_completes All w a b (status.Full n) read write t finished = absurd (let clash = sym finished ∙ t.0 in let P : ⊥ = cc in P)
run_completes Last w a b (status.Full n) read write t finished = absurd (let clash = sym finished ∙ t.0 in let P : ⊥ = cc in P)
run_completes Faults w a b (status.Full n) read write t finished = absurd (let clash = sym finished ∙ t.0 in let P : ⊥ = cc in P)
run_completes say w a b status.ReadFault read write t finished = absurd (read refl)
run_completes say w a b status.WriteFault read write t finished = absurd (write refl)
run_completes say w a b status.NoMemory read write t finished = inr refl
run_completes say w a b status.Usage read write t finished = absurd t

from_completes : (say : Say) (m : RunState) (bytes : List ℕ) (new a b : Option (List ℕ)) (s : Status) → (s ≡ status.ReadFault → ⊥) → (s ≡ status.WriteFault → ⊥) → IsOutputFrom say m bytes new a b s → (text_on m bytes).verdict ≡ Finished
    → IsDoneOrShort s
from_completes say m bytes new a b status.Done read write t = run_completes say (text_on m bytes) a b status.Done read write t
from_completes say m bytes new a b (status.BadLine n) read write t = run_completes say (text_on m bytes) a b (status.BadLine n) read write t
from_completes say m bytes new a b (status.Full n) read write t = run_completes say (text_on m bytes) a b (status.Full n) read write t
from_completes say m bytes new a b status.ReadFault read write t = absurd (read refl)
from_completes say m bytes new a b status.WriteFault read write t = absurd (write refl)
from_completes say m bytes new a b status.NoMemory read write t = run_completes say (text_on m bytes) a b status.NoMemory read write t
from_completes say m bytes new a b status.Usage read write t = absurd t

make_completes : (a b : Option (List ℕ)) (text : List ℕ) (s : Status) → (s ≡ status.WriteFault → ⊥) → IsWritten a b text s → s ≡ status.Done
make_completes a b text status.Done write t = refl
make_completes a b text (status.BadLine n) write t = absurd t
make_completes a b text (status.Full n) write t = absurd t
make_completes a b text status.ReadFault write t = absurd t
make_completes a b text status.WriteFault write t = absurd (write refl)
make_completes a b text status.NoMemory write t = absurd t
make_completes a b text status.Usage write t = absurd t

completes : (c : Command) (left after a b : Option (List ℕ)) (s : Status) → IsCommandRun c left after a b s → (s ≡ status.ReadFault → ⊥) → (s ≡ status.WriteFault → ⊥) → Completes c left s
unfolding text_of_input
completes (Run variant quiet) None after a b s t read write = tt
completes (Run variant quiet) (Some bytes) after a b s t read write = from_completes (say_by quiet) (opening variant) bytes after a b s read write t.0
completes (Make plan) left after a b s t read write = make_completes a b (made_by plan) s write t
completes (Trial variant plan) left after a b s t read write = run_completes Last (text_of_input variant (made_by plan)) a b s read write t.0

pub command_completes : (command : Option Command) (c : Command) (left after a b : Option (List ℕ)) (s : Status) (reads_before reads_after writes_before writes_after : ℕ) → Some c ≡ command → IsCommandRun c left after a b s
    → (s ≡ status.ReadFault → Rose reads_before reads_after) → (s ≡ status.WriteFault → Rose writes_before writes_after)
    → IfSome command (λ x. (Rose reads_before reads_after → ⊥) → (Rose writes_before writes_after → ⊥) → Completes x left s)
command_completes command c left after a b s rb ra wb wa e t read write =
    let P : Option Command → Type 0 = λ o. IfSome o (λ x. (Rose rb ra → ⊥) → (Rose wb wa → ⊥) → Completes x left s) in
    subst P e (λ none nothing. completes c left after a b s t (λ x. none (read x)) (λ x. nothing (write x)))
