-- What the run of any schedule with places comes to.
use Rattle.std.proofs.Common.{◌≡◌, ◌∙◌, ◌⊎◌, ℕ, List, Option, Some, None, IfSome, Result, refl, sym, subst, inl, inr}
use Rattle.mesh_base.specs.declared.events.Variant.TheVariants.{Base}
use Rattle.mesh_io.specs.Cause.{Rose}
use Rattle.mesh_io.specs.NextLines.{schedule_limits}
use Rattle.mesh_io.specs.declared.limits.Limits.{Limits}
use Rattle.mesh_shell.specs.Outputs as outputs
use Rattle.mesh_shell.specs.declared.fault.Fault.{Fault}
use Rattle.mesh_text.specs.declared.verdict.Verdict.{Verdict}
use Rattle.mesh_text.specs.declared.verdict.Verdict.TheVariants.{Finished}
use Rattle.mesh_run.specs.Codes.{status_of}
use Rattle.mesh_run.specs.declared.status.Status.{Status}
use Rattle.mesh_run.specs.declared.status.Status.TheVariants as status
use Rattle.mesh_grid.specs.Text.{RunState, opening, text_of_input}
use Rattle.mesh_grid.proofs.PlaceRuns.{worlds_are_of_events, runs_with_places_are_loop_free}
use Rattle.mesh_grid.proofs.PlacedRunStates.{state_is_of_events, state_is_loop_free}
use Rattle.mesh_grid.proofs.LinkLaws.{links_follow_places}
use Rattle.mesh_places.specs.declared.placed.Placed.{Placed}
use Rattle.mesh_places.specs.RunStates.{run_state_of}
use Rattle.mesh_places.specs.Outputs.{IsOutputFrom, IsPlacedRun, IsRun}
use Rattle.mesh_places.specs.Running.{running}
use Rattle.mesh_places.proofs.Telling.{input_told}

is_placed : (reach : ℕ) (schedule : List ℕ) → IsPlacedRun reach schedule
is_placed reach schedule = record {
  worlds = (worlds_are_of_events reach Base schedule).0;
  run_states = λ i k done. state_is_of_events reach Base schedule i k done;
  loop_free = λ k d. runs_with_places_are_loop_free reach Base schedule k d;
  states_loop_free = λ i k d. state_is_loop_free reach Base schedule i k d;
  links = λ i a b. links_follow_places reach Base schedule i a b;
}

-- what the script's answer tells, and that it is of such a run
pub runs_so : (reach : ℕ) (p : Placed) (most : Limits) (given left before now : Option (List ℕ)) (answer : Result Verdict Fault) (s : Status) → p.reach ≡ reach → run_state_of p ≡ opening Base → most ≡ schedule_limits → s ≡ status_of answer
    → IfSome given (λ bytes. outputs.IsOutputFrom running most p bytes left before now answer) → IfSome given (λ bytes. IsRun reach bytes left before now s)
runs_so reach p most None left before now answer s far opens limits is told = tt
runs_so reach p most (Some bytes) left before now answer s far opens limits is told =
    let within = subst (λ (l : Limits). outputs.IsOutputFrom running l p bytes left before now answer) limits told in
    let here = subst (λ (k : ℕ). IsOutputFrom k (run_state_of p) bytes left before now (status_of answer)) far (input_told p bytes left before now answer within) in
    let opened = subst (λ (m : RunState). IsOutputFrom reach m bytes left before now (status_of answer)) opens here in
    (subst (λ (k : Status). IsOutputFrom reach (opening Base) bytes left before now k) (sym is) opened, is_placed reach bytes)

-- ---- completeness

-- where nothing has failed, and each line is allowed and no counter full, a run is done, unless memory runs out
completes : (reach : ℕ) (bytes : List ℕ) (after a b : Option (List ℕ)) (s : Status) → (s ≡ status.ReadFault → ⊥) → (s ≡ status.WriteFault → ⊥) → IsOutputFrom reach (opening Base) bytes after a b s
    → (text_of_input reach Base bytes).verdict ≡ Finished → (s ≡ status.Done) ⊎ (s ≡ status.NoMemory)
unfolding text_of_input
completes reach bytes after a b status.Done read write t finished = inl refl
completes reach bytes after a b (status.BadLine n) read write t finished = absurd (let clash = sym finished ∙ t.0 in let P : ⊥ = cc in P)
completes reach bytes after a b (status.Full n) read write t finished = absurd (let clash = sym finished ∙ t.0 in let P : ⊥ = cc in P)
completes reach bytes after a b status.ReadFault read write t finished = absurd (read refl)
completes reach bytes after a b status.WriteFault read write t finished = absurd (write refl)
completes reach bytes after a b status.NoMemory read write t finished = inr refl
completes reach bytes after a b status.Usage read write t finished = absurd t

by_left : (reach : ℕ) (left after a b : Option (List ℕ)) (s : Status) (rb ra wb wa : ℕ) → IfSome left (λ bytes. IsRun reach bytes after a b s) → (s ≡ status.ReadFault → Rose rb ra) → (s ≡ status.WriteFault → Rose wb wa)
    → IfSome left (λ bytes. (text_of_input reach Base bytes).verdict ≡ Finished → (Rose rb ra → ⊥) → (Rose wb wa → ⊥) → (s ≡ status.Done) ⊎ (s ≡ status.NoMemory))
by_left reach None after a b s rb ra wb wa t read write = tt
by_left reach (Some bytes) after a b s rb ra wb wa t read write = λ finished none nothing. completes reach bytes after a b s (λ x. none (read x)) (λ x. nothing (write x)) t.0 finished

pub run_completes : (o : Option ℕ) (reach : ℕ) (left after a b : Option (List ℕ)) (s : Status) (rb ra wb wa : ℕ) → Some reach ≡ o → IfSome left (λ bytes. IsRun reach bytes after a b s)
    → (s ≡ status.ReadFault → Rose rb ra) → (s ≡ status.WriteFault → Rose wb wa)
    → IfSome o (λ x. IfSome left (λ bytes. (text_of_input x Base bytes).verdict ≡ Finished → (Rose rb ra → ⊥) → (Rose wb wa → ⊥) → (s ≡ status.Done) ⊎ (s ≡ status.NoMemory)))
run_completes o reach left after a b s rb ra wb wa e t read write =
    let P : Option ℕ → Type 0 = λ q. IfSome q (λ x. IfSome left (λ bytes. (text_of_input x Base bytes).verdict ≡ Finished → (Rose rb ra → ⊥) → (Rose wb wa → ⊥) → (s ≡ status.Done) ⊎ (s ≡ status.NoMemory))) in
    subst P e (by_left reach left after a b s rb ra wb wa t read write)
