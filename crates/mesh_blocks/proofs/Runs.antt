-- What the watched run of any schedule comes to.
use Rattle.std.proofs.Common.{◌≡◌, ◌∙◌, ◌⊎◌, ℕ, List, Option, Some, None, IfSome, Result, refl, sym, ap, subst, inl, inr}
use Rattle.mesh_base.specs.declared.events.Variant.{Variant}
use Rattle.mesh_io.specs.Cause.{Rose}
use Rattle.mesh_io.specs.NextLines.{schedule_limits}
use Rattle.mesh_io.specs.declared.limits.Limits.{Limits}
use Rattle.mesh_shell.specs.Outputs as outputs
use Rattle.mesh_shell.specs.declared.fault.Fault.{Fault}
use Rattle.mesh_text.specs.Schedule.{RunState, opening, world_of}
use Rattle.mesh_text.specs.Text.{RunText, text_of_input}
use Rattle.mesh_text.specs.declared.verdict.Verdict.{Verdict}
use Rattle.mesh_text.specs.declared.verdict.Verdict.TheVariants.{Finished}
use Rattle.mesh_text.specs.Runs.{world_after}
use Rattle.mesh_text.proofs.RunLaws.{run_of_events, runs_are_loop_free}
use Rattle.mesh_run.specs.Codes.{status_of}
use Rattle.mesh_run.specs.declared.status.Status.{Status}
use Rattle.mesh_run.specs.declared.status.Status.TheVariants as status
use Rattle.mesh_run.proofs.Loud.{loud_told}
use Rattle.mesh_blocks.specs.declared.below.Below.{Below}
use Rattle.mesh_blocks.specs.Text.{watched_run, watched_on}
use Rattle.mesh_blocks.specs.Outputs.{IsOutputFrom, IsWatchedRun, IsRun}
use Rattle.mesh_blocks.proofs.SameRun.{same_run, watched_run_is_the_run, state_is_the_runs, state_is_of_events, states_are_loop_free}
use Rattle.mesh_blocks.proofs.WithBlocks.{blocks_are_all_that_is_added}

pub is_watched : (form : Below) (variant : Variant) (schedule : List ℕ) → IsWatchedRun form variant schedule
is_watched form variant schedule = record {
  worlds = subst (λ (m : RunState). world_of m ≡ world_after variant schedule m.sums.events) (sym (ap (λ (w : RunText). w.after) (watched_run_is_the_run form variant schedule))) (run_of_events variant schedule);
  same = λ i k. state_is_the_runs form variant schedule i k;
  run_states = λ i k done. state_is_of_events form variant schedule i k done;
  loop_free = λ k d. runs_are_loop_free variant schedule k d;
  states_loop_free = λ i k d. states_are_loop_free form variant schedule i k d;
  blocks = blocks_are_all_that_is_added form variant schedule;
}

-- what the script's answer tells, and that it is of such a run
pub runs_so : (form : Below) (variant : Variant) (m : RunState) (most : Limits) (given left before now : Option (List ℕ)) (answer : Result Verdict Fault) (s : Status) → m ≡ opening variant → most ≡ schedule_limits → s ≡ status_of answer
    → IfSome given (λ bytes. outputs.IsOutputFrom (watched_run form) most m bytes left before now answer) → IfSome given (λ bytes. IsRun form variant bytes left before now s)
runs_so form variant m most None left before now answer s opens limits is told = tt
runs_so form variant m most (Some bytes) left before now answer s opens limits is told =
    let here = subst (λ (k : RunState). outputs.IsOutputFrom (watched_run form) most k bytes left before now answer) opens told in
    let within = subst (λ (l : Limits). outputs.IsOutputFrom (watched_run form) l (opening variant) bytes left before now answer) limits here in
    (subst (λ (k : Status). IsOutputFrom form (opening variant) bytes left before now k) (sym is) (loud_told (watched_on form (opening variant)) bytes left before now answer within), is_watched form variant bytes)

-- ---- completeness

-- where nothing has failed, and each line is allowed and no counter full, a run is done, unless memory runs out
by_output : (form : Below) (m : RunState) (bytes : List ℕ) (after a b : Option (List ℕ)) (s : Status) → ¬ (s ≡ status.ReadFault) → ¬ (s ≡ status.WriteFault) → IsOutputFrom form m bytes after a b s
    → (watched_on form m bytes).verdict ≡ Finished → (s ≡ status.Done) ⊎ (s ≡ status.NoMemory)
by_output form m bytes after a b status.Done read write t finished = inl refl
by_output form m bytes after a b (status.BadLine n) read write t finished = absurd (let clash = sym finished ∙ t.0 in let P : ⊥ = cc in P)
by_output form m bytes after a b (status.Full n) read write t finished = absurd (let clash = sym finished ∙ t.0 in let P : ⊥ = cc in P)
by_output form m bytes after a b status.ReadFault read write t finished = absurd (read refl)
by_output form m bytes after a b status.WriteFault read write t finished = absurd (write refl)
by_output form m bytes after a b status.NoMemory read write t finished = inr refl
by_output form m bytes after a b status.Usage read write t finished = absurd t

completes : (form : Below) (variant : Variant) (bytes : List ℕ) (after a b : Option (List ℕ)) (s : Status) → ¬ (s ≡ status.ReadFault) → ¬ (s ≡ status.WriteFault) → IsOutputFrom form (opening variant) bytes after a b s
    → (text_of_input variant bytes).verdict ≡ Finished → (s ≡ status.Done) ⊎ (s ≡ status.NoMemory)
unfolding text_of_input
completes form variant bytes after a b s read write t finished =
    by_output form (opening variant) bytes after a b s read write t (ap (λ (w : RunText). w.verdict) (same_run form (opening variant) bytes) ∙ finished)

-- the same of what a source tells, where a fault is answered only where there was one
pub run_completes : (form : Below) (variant : Variant) (left after a b : Option (List ℕ)) (s : Status) (rb ra wb wa : ℕ) → IfSome left (λ bytes. IsRun form variant bytes after a b s) → (s ≡ status.ReadFault → Rose rb ra) → (s ≡ status.WriteFault → Rose wb wa)
    → IfSome left (λ bytes. (text_of_input variant bytes).verdict ≡ Finished → (Rose rb ra → ⊥) → (Rose wb wa → ⊥) → (s ≡ status.Done) ⊎ (s ≡ status.NoMemory))
run_completes form variant None after a b s rb ra wb wa t read write = tt
run_completes form variant (Some bytes) after a b s rb ra wb wa t read write = λ finished none nothing. completes form variant bytes after a b s (λ x. none (read x)) (λ x. nothing (write x)) t.0 finished
