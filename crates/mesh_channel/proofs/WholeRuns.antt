-- What a run over a channel comes to, whatever its input.
use Rattle.std.proofs.Common.{◌≡◌, ◌∙◌, ◌⊎◌, ℕ, List, Option, Some, None, IfSome, Result, ◌+◌, length, refl, sym, ap, subst, inl, inr, arith}
use Rattle.mesh_base.specs.declared.events.Variant.{Variant}
use Rattle.mesh_io.specs.Cause.{Rose}
use Rattle.mesh_io.specs.NextLines.{schedule_limits}
use Rattle.mesh_io.specs.declared.limits.Limits.{Limits}
use Rattle.mesh_shell.specs.Outputs as outputs
use Rattle.mesh_shell.specs.declared.fault.Fault.{Fault}
use Rattle.mesh_text.specs.declared.verdict.Verdict.{Verdict}
use Rattle.mesh_text.specs.declared.verdict.Verdict.TheVariants.{Finished}
use Rattle.mesh_run.specs.Codes.{status_of}
use Rattle.mesh_run.specs.Outputs.{part}
use Rattle.mesh_run.specs.declared.say.Say.{Say}
use Rattle.mesh_run.specs.declared.say.Say.TheVariants.{All, Last, Faults}
use Rattle.mesh_run.specs.declared.status.Status.{Status}
use Rattle.mesh_run.specs.declared.status.Status.TheVariants as status
use Rattle.mesh_fates.specs.declared.rates.Rates.{Rates}
use Rattle.mesh_channel.specs.declared.channeled.Channeled.{Channeled}
use Rattle.mesh_channel.specs.declared.words.Options.{Options}
use Rattle.mesh_channel.specs.Text.{RunState, RunText, opening, text_of_input}
use Rattle.mesh_channel.specs.RunStates.{run_state_of}
use Rattle.mesh_channel.specs.Outputs.{IsOutputFrom, IsChannelRun, IsRun}
use Rattle.mesh_channel.specs.Running.{running}
use Rattle.mesh_channel.specs.Room.{HasRoomFor, HasFewCopies}
use Rattle.mesh_fates.specs.Channels as channels
use Rattle.mesh_model.specs.Worlds.{start}
use Rattle.mesh_channel.proofs.ScheduleRuns.{chosen_schedule_is_replayed}
use Rattle.mesh_channel.proofs.ChannelRuns.{worlds_are_of_events, runs_over_channels_are_loop_free, each_datum_is_accounted_for}
use Rattle.mesh_channel.proofs.Telling.{input_told}

is_channel_run : (rates : Rates) (variant : Variant) (seed : ℕ) (input : List ℕ) → IsChannelRun rates variant seed input
is_channel_run rates variant seed input = record {
  replayed = chosen_schedule_is_replayed rates variant seed input;
  worlds = worlds_are_of_events rates variant seed input;
  loop_free = λ k d. runs_over_channels_are_loop_free rates variant seed input k d;
  accounted = λ t k. each_datum_is_accounted_for rates variant seed input t k;
}

-- what the script's answer tells, and that it is of such a run
pub runs_so : (o : Options) (p : Channeled) (most : Limits) (given left before now : Option (List ℕ)) (answer : Result Verdict Fault) (s : Status) → p.rates ≡ o.rates → p.say ≡ o.say → run_state_of p ≡ opening o.variant o.seed → most ≡ schedule_limits → s ≡ status_of answer
    → IfSome given (λ bytes. outputs.IsOutputFrom running most p bytes left before now answer) → IfSome given (λ bytes. IsRun o bytes left before now s)
runs_so o p most None left before now answer s rates say opens limits is told = tt
runs_so o p most (Some bytes) left before now answer s rates say opens limits is told =
    let within = subst (λ (l : Limits). outputs.IsOutputFrom running l p bytes left before now answer) limits told in
    let rated = subst (λ (k : Rates). IsOutputFrom p.say k (run_state_of p) bytes left before now (status_of answer)) rates (input_told p bytes left before now answer within) in
    let here = subst (λ (k : Say). IsOutputFrom k o.rates (run_state_of p) bytes left before now (status_of answer)) say rated in
    let opened = subst (λ (m : RunState). IsOutputFrom o.say o.rates m bytes left before now (status_of answer)) opens here in
    (subst (λ (k : Status). IsOutputFrom o.say o.rates (opening o.variant o.seed) bytes left before now k) (sym is) opened, is_channel_run o.rates o.variant o.seed bytes)

-- ---- completeness

same_verdict : (say : Say) (w : RunText) → (part say w).verdict ≡ w.verdict
same_verdict All w = refl
same_verdict Last w = refl
same_verdict Faults w = refl

-- where nothing has failed, and each line is allowed and no counter full, a run is done, unless memory runs out
completes : (o : Options) (bytes : List ℕ) (after a b : Option (List ℕ)) (s : Status) → (s ≡ status.ReadFault → ⊥) → (s ≡ status.WriteFault → ⊥) → IsOutputFrom o.say o.rates (opening o.variant o.seed) bytes after a b s
    → (text_of_input o.rates o.variant o.seed bytes).verdict ≡ Finished → (s ≡ status.Done) ⊎ (s ≡ status.NoMemory)
unfolding text_of_input
completes o bytes after a b status.Done read write t finished = inl refl
completes o bytes after a b (status.BadLine n) read write t finished = absurd (let clash = sym finished ∙ sym (same_verdict o.say _) ∙ t.0 in let P : ⊥ = cc in P)
completes o bytes after a b (status.Full n) read write t finished = absurd (let clash = sym finished ∙ sym (same_verdict o.say _) ∙ t.0 in let P : ⊥ = cc in P)
completes o bytes after a b status.ReadFault read write t finished = absurd (read refl)
completes o bytes after a b status.WriteFault read write t finished = absurd (write refl)
completes o bytes after a b status.NoMemory read write t finished = inr refl
completes o bytes after a b status.Usage read write t finished = absurd t

by_left : (o : Options) (left after a b : Option (List ℕ)) (s : Status) (rb ra wb wa : ℕ) → IfSome left (λ bytes. IsRun o bytes after a b s) → (s ≡ status.ReadFault → Rose rb ra) → (s ≡ status.WriteFault → Rose wb wa)
    → IfSome left (λ bytes. (text_of_input o.rates o.variant o.seed bytes).verdict ≡ Finished → (Rose rb ra → ⊥) → (Rose wb wa → ⊥) → (s ≡ status.Done) ⊎ (s ≡ status.NoMemory))
by_left o None after a b s rb ra wb wa t read write = tt
by_left o (Some bytes) after a b s rb ra wb wa t read write = λ finished none nothing. completes o bytes after a b s (λ x. none (read x)) (λ x. nothing (write x)) t.0 finished

pub run_completes : (q : Option Options) (o : Options) (left after a b : Option (List ℕ)) (s : Status) (rb ra wb wa : ℕ) → Some o ≡ q → IfSome left (λ bytes. IsRun o bytes after a b s)
    → (s ≡ status.ReadFault → Rose rb ra) → (s ≡ status.WriteFault → Rose wb wa)
    → IfSome q (λ x. IfSome left (λ bytes. (text_of_input x.rates x.variant x.seed bytes).verdict ≡ Finished → (Rose rb ra → ⊥) → (Rose wb wa → ⊥) → (s ≡ status.Done) ⊎ (s ≡ status.NoMemory)))
run_completes q o left after a b s rb ra wb wa e t read write =
    let P : Option Options → Type 0 = λ q. IfSome q (λ x. IfSome left (λ bytes. (text_of_input x.rates x.variant x.seed bytes).verdict ≡ Finished → (Rose rb ra → ⊥) → (Rose wb wa → ⊥) → (s ≡ status.Done) ⊎ (s ≡ status.NoMemory))) in
    subst P e (by_left o left after a b s rb ra wb wa t read write)

-- ---- the room of a run

pub room_at_start : (p : Channeled) (most : Limits) (variant : Variant) (seed : ℕ) → run_state_of p ≡ opening variant seed → most ≡ schedule_limits → HasRoomFor p (most.input + 1)
unfolding start channels.opening
room_at_start p most variant seed opens limits =
    let lines = ap (λ (m : RunState). m.run.lines) opens in
    let steps = ap (λ (m : RunState). m.run.steps) opens in
    let left = ap (λ (m : RunState). length m.channel.left) opens in
    let tick = ap (λ (m : RunState). m.channel.tick) opens in
    let size = ap (λ (l : Limits). l.input) limits in
    record {
      lines = omega (arith, lines, size);
      steps = omega (arith, steps, size);
      left = omega (arith, left);
      tick = omega (arith, tick);
      copies = subst (λ (m : RunState). HasFewCopies m.run) (sym opens) (record { some = omega arith; few = omega arith });
    }
