-- A run that goes on from a saved checkpoint is that of the whole schedule.
use Rattle.std.proofs.Common.{◌≡◌, ◌≢◌, ◌∙◌, ℕ, List, ◌++◌, Option, Some, None, sym, ap, subst, inl, inr}
use Rattle.mesh_base.specs.declared.events.Variant.TheVariants.{Base}
use Rattle.mesh_text.specs.Schedule.{RunState}
use Rattle.mesh_text.specs.Text.{RunText, lines_before, text_on, text_of_input}
use Rattle.mesh_run.specs.declared.say.Say.TheVariants.{All}
use Rattle.mesh_run.specs.declared.status.Status.{Status}
use Rattle.mesh_run.specs.declared.status.Status.TheVariants as status
use Rattle.mesh_run.specs.Outputs.{IsOutputOf, IsOutputFrom}
use Rattle.mesh_checkpoint.specs.Points.{IsState}
use Rattle.mesh_load.specs.declared.error.StateError.{StateError}
use Rattle.mesh_load.specs.Loading.{IsRefused, RunIsUnrefused}
use Rattle.mesh_load.specs.RunStates.{IsPlainRunState, OneStart}
use Rattle.mesh_load.proofs.PlainRuns.{run_is_plain}
use Rattle.mesh_state.specs.declared.words.Asked.{Asked}
use Rattle.mesh_state.specs.declared.words.Asked.TheVariants.{Save, Go}
use Rattle.mesh_state.specs.declared.status.StateStatus.{StateStatus}
use Rattle.mesh_state.specs.declared.status.StateStatus.TheVariants.{Run, BadState, TooBig}
use Rattle.mesh_state.specs.CheckpointParts.{checkpoint_part_of, rest_of}
use Rattle.mesh_state.specs.Saved.{IsSavedOf, IsTextBelow}
use Rattle.mesh_state.specs.Laws.{LoadedRunGoesOn}
use Rattle.mesh_state.specs.Answers.{IsBadState, IsRunOn, RanUnlessCut, IsRunGone, IsGoneOn, IsContinued, HasAnswered, HasGoneOn}
use Rattle.mesh_state.proofs.Checkpoints.{checkpoint_is_its_part}
use Rattle.mesh_state.proofs.WholeLines.{saved_run_goes_on}

-- the state of the checkpoint that was saved
start_is : OneStart → (first second saved : List ℕ) (start : RunState) → IsSavedOf first saved → IsPlainRunState start → IsState (checkpoint_part_of (saved ++ second)) start → start ≡ (text_of_input Base first).after
start_is one first second saved start is plain state =
    let m : RunState = (text_of_input Base first).after in
    let checkpoint_part : checkpoint_part_of (saved ++ second) ≡ saved = (checkpoint_is_its_part m saved second is.state).0 in
    one saved start m plain (run_is_plain Base first) (subst (λ b. IsState b start) checkpoint_part state) is.state

rest_is : (first second saved : List ℕ) → IsSavedOf first saved → rest_of (saved ++ second) ≡ second
rest_is first second saved is = (checkpoint_is_its_part (text_of_input Base first).after saved second is.state).1

text_below : (first saved : List ℕ) → IsSavedOf first saved → IsTextBelow first (text_on (text_of_input Base first).after)
text_below first saved is more few = saved_run_goes_on first more is.whole few is.finished

pub loaded_run_goes_on : OneStart → LoadedRunGoesOn
loaded_run_goes_on one first second saved start is few plain state =
    text_below first saved is second few
    ∙ sym (ap (λ m. lines_before (text_of_input Base first).lines (text_on m (rest_of (saved ++ second)))) (start_is one first second saved start is plain state)
    ∙ ap (λ l. lines_before (text_of_input Base first).lines (text_on (text_of_input Base first).after l)) (rest_is first second saved is))

-- ---- what was answered

gone_on : OneStart → (first second saved : List ℕ) (left a b : Option (List ℕ)) (s : Status) → IsSavedOf first saved → IsRunOn (saved ++ second) left a b s → IsGoneOn first second left a b s
gone_on one first second saved left a b s is t =
    let m : RunState = (text_of_input Base first).after in
    let from : IsOutputFrom All m (rest_of (saved ++ second)) left a b s = subst (λ x. IsOutputFrom All x (rest_of (saved ++ second)) left a b s) (start_is one first second saved t.start is t.plain t.state) t.output in
    (text_on m, text_below first saved is, subst (λ l. IsOutputFrom All m l left a b s) (rest_is first second saved is) from)

went_on : OneStart → (first second saved : List ℕ) (left a b : Option (List ℕ)) (s : Status) → IsSavedOf first saved → IsRunGone (saved ++ second) left a b s → RanUnlessCut (IsGoneOn first second left a b) (saved ++ second) left a b s
went_on one first second saved left a b status.Done is t = gone_on one first second saved left a b status.Done is t
went_on one first second saved left a b (status.BadLine n) is t = gone_on one first second saved left a b (status.BadLine n) is t
went_on one first second saved left a b (status.Full n) is t = gone_on one first second saved left a b (status.Full n) is t
went_on one first second saved left a b status.ReadFault is (inl cut) = inl cut
went_on one first second saved left a b status.ReadFault is (inr t) = inr (gone_on one first second saved left a b status.ReadFault is t)
went_on one first second saved left a b status.WriteFault is t = gone_on one first second saved left a b status.WriteFault is t
went_on one first second saved left a b status.NoMemory is (inl kept) = inl kept
went_on one first second saved left a b status.NoMemory is (inr t) = inr (gone_on one first second saved left a b status.NoMemory is t)
went_on one first second saved left a b status.Usage is t = t

never_refused : RunIsUnrefused → (bytes : List ℕ) (left a b : Option (List ℕ)) (why : StateError) → IsBadState bytes left a b why → (first second saved : List ℕ) → IsSavedOf first saved → bytes ≢ saved ++ second
never_refused free bytes left a b why bad first second saved is whole =
    let checkpoint_part : checkpoint_part_of bytes ≡ saved = ap checkpoint_part_of whole ∙ (checkpoint_is_its_part (text_of_input Base first).after saved second is.state).0 in
    bad.refusal (free Base first saved why is.state (subst (λ l. IsRefused l why) checkpoint_part bad.refused))

goes_on : OneStart → RunIsUnrefused → (asked : Asked) (bytes : List ℕ) (left a b : Option (List ℕ)) (s : StateStatus) → HasAnswered (Some asked) (Some bytes) left a b s → IsContinued asked bytes left a b s
goes_on one free Save bytes left a b s t = tt
goes_on one free Go bytes left a b (Run s) t = λ first second saved is whole.
    subst (λ l. RanUnlessCut (IsGoneOn first second left a b) l left a b s) (sym whole) (went_on one first second saved left a b s is (subst (λ l. IsRunGone l left a b s) whole t))
goes_on one free Go bytes left a b (BadState why) t = never_refused free bytes left a b why t
goes_on one free Go bytes left a b TooBig t = tt

by_given : OneStart → RunIsUnrefused → (asked : Asked) (given left a b : Option (List ℕ)) (s : StateStatus) → HasAnswered (Some asked) given left a b s → HasGoneOn (Some asked) given left a b s
by_given one free asked None left a b s t = tt
by_given one free asked (Some bytes) left a b s t = goes_on one free asked bytes left a b s t

pub answer_goes_on : OneStart → RunIsUnrefused → (o : Option Asked) (asked : Asked) (given left a b : Option (List ℕ)) (s : StateStatus) → Some asked ≡ o → HasAnswered (Some asked) given left a b s → HasGoneOn o given left a b s
answer_goes_on one free o asked given left a b s e t = subst (λ q. HasGoneOn q given left a b s) e (by_given one free asked given left a b s t)
