-- What was written and answered, from what the calls below say.
use Rattle.std.proofs.Common.{◌≡◌, ◌≢◌, ◌∙◌, ◌⊎◌, ℕ, inl, inr, List, [], ◌++◌, Option, Some, None, IfSome, refl, ap, sym, subst}
use Rattle.std.specs.Io.KnownBytes.{Appends, Keeps}
use Rattle.mesh_base.specs.declared.events.Variant.TheVariants.{Base}
use Rattle.mesh_io.proofs.Writing.{Appends-join, AppendsPrefix-join, Keeps-same}
use Rattle.mesh_io.proofs.Ahead.{Keeps-if}
use Rattle.mesh_text.specs.Schedule.{RunState, opening}
use Rattle.mesh_text.specs.Text.{RunText, whole, text_on}
use Rattle.mesh_text.specs.declared.verdict.Verdict.{Verdict}
use Rattle.mesh_text.specs.declared.verdict.Verdict.TheVariants.{Finished}
use Rattle.mesh_run.specs.declared.say.Say.{Say}
use Rattle.mesh_run.specs.declared.say.Say.TheVariants.{All, Faults}
use Rattle.mesh_run.specs.declared.status.Status.{Status}
use Rattle.mesh_run.specs.declared.status.Status.TheVariants as status
use Rattle.mesh_run.specs.Outputs.{part, fault_line, IsOutputFrom}
use Rattle.mesh_checkpoint.specs.Points.{IsState, IsTooLong}
use Rattle.mesh_save.specs.Saved.{IsWritten, IsCut}
use Rattle.mesh_load.specs.declared.error.StateError.{StateError}
use Rattle.mesh_load.specs.declared.error.StateError.TheVariants as errors
use Rattle.mesh_load.specs.Loading.{IsRefused}
use Rattle.mesh_load.specs.RunStates.{IsPlainRunState}
use Rattle.mesh_state.specs.declared.words.Asked.TheVariants.{Save, Go}
use Rattle.mesh_state.specs.declared.status.StateStatus.{StateStatus}
use Rattle.mesh_state.specs.declared.status.StateStatus.TheVariants.{Run, TooBig}
use Rattle.mesh_state.specs.CheckpointParts.{checkpoint_part_of, rest_of, IsTaken, IsCheckpointPartCut}
use Rattle.mesh_state.specs.Answers.{IsSaved, IsCutOff, IsTooBig, IsUnrefused, answer_by, IsRunOn, IsBadState, IsRunGone, IsRunSaved, IsAnswered, HasAnswered}
use Rattle.mesh_state.proofs.Refused.{refused, restored}

-- ---- with `save`

-- of a run from the opening on that tells its faults alone
told_of : (say : Say) (start : RunState) (bytes : List ℕ) (after a b : Option (List ℕ)) (s : Status) → say ≡ Faults → start ≡ opening Base → IsOutputFrom say start bytes after a b s → IsOutputFrom Faults (opening Base) bytes after a b s
told_of say start bytes after a b s l e t = subst (λ x. IsOutputFrom Faults x bytes after a b s) e (subst (λ x. IsOutputFrom x start bytes after a b s) l t)

-- a run that isn't done
stopped : (bytes : List ℕ) (after a b : Option (List ℕ)) (s : Status) → s ≢ status.Done → IsOutputFrom Faults (opening Base) bytes after a b s → IsRunSaved bytes after a b s
stopped bytes after a b status.Done other t = absurd (other refl)
stopped bytes after a b (status.BadLine n) other t = t
stopped bytes after a b (status.Full n) other t = t
stopped bytes after a b status.ReadFault other t = t
stopped bytes after a b status.WriteFault other t = inl t
stopped bytes after a b status.NoMemory other t = t
stopped bytes after a b status.Usage other t = t

pub stopped_told : (say : Say) (start : RunState) (left after a b : Option (List ℕ)) (s : Status) → say ≡ Faults → start ≡ opening Base → s ≢ status.Done → IfSome left (λ bytes. IsOutputFrom say start bytes after a b s)
    → HasAnswered (Some Save) left after a b (Run s)
stopped_told say start None after a b s l e other t = tt
stopped_told say start (Some bytes) after a b s l e other t = stopped bytes after a b s other (told_of say start bytes after a b s l e t)

-- of a run that is done no line was told
nothing_said : (w : RunText) (a b : Option (List ℕ)) → w.verdict ≡ Finished → Appends a b (whole (part Faults w)) → Appends a b []
nothing_said w a b finished t = let P : Verdict → Type 0 = λ v. Appends a b ([] ++ fault_line v w.last) in subst P finished t

-- the run came to this state, and no line was told
record CameTo (bytes : List ℕ) (at : RunState) (a b : Option (List ℕ)) : Type 0 where
  finished : (text_on (opening Base) bytes).verdict ≡ Finished
  after : at ≡ (text_on (opening Base) bytes).after
  nothing : Appends a b []

came_to : (say : Say) (start at : RunState) (bytes : List ℕ) (after a b : Option (List ℕ)) (s : Status) → say ≡ Faults → start ≡ opening Base → s ≡ status.Done
    → IsOutputFrom say start bytes after a b s → at ≡ (text_on start bytes).after → CameTo bytes at a b
came_to say start at bytes after a b s l e d told past =
    let so : IsOutputFrom Faults (opening Base) bytes after a b status.Done = subst (λ x. IsOutputFrom Faults (opening Base) bytes after a b x) d (told_of say start bytes after a b s l e told) in
    record {
      finished = so.0;
      after = past ∙ ap (λ x. (text_on x bytes).after) e;
      nothing = nothing_said (text_on (opening Base) bytes) a b so.0 so.1;
    }

-- the checkpoint was written after nothing
written_after : (m n : RunState) (a b c : Option (List ℕ)) → m ≡ n → Appends a b [] → IsWritten m b c → IsWritten n a c
written_after m n a b c e nothing w = record {
  bytes = w.bytes;
  state = subst (λ x. IsState w.bytes x) e w.state;
  grown = Appends-join a b c [] w.bytes w.bytes refl nothing w.grown;
}

cut_after : (m n : RunState) (a b c : Option (List ℕ)) → m ≡ n → Appends a b [] → IsCut m b c → IsCut n a c
cut_after m n a b c e nothing w = record {
  bytes = w.bytes;
  state = subst (λ x. IsState w.bytes x) e w.state;
  grown = AppendsPrefix-join a b c [] w.bytes w.bytes refl nothing w.grown;
}

saved : (bytes : List ℕ) (at : RunState) (after a b c : Option (List ℕ)) (r : StateStatus) → CameTo bytes at a b → (r ≡ Run status.Done → IsWritten at b c) → (r ≡ Run status.WriteFault → IsCut at b c)
    → (r ≡ TooBig → IsTooLong at × (c ≡ b)) → (r ≡ Run status.Done) ⊎ ((r ≡ Run status.WriteFault) ⊎ (r ≡ TooBig)) → IsAnswered Save bytes after a c r
saved bytes at after a b c r came done cut big (inl is) =
    let P : StateStatus → Type 0 = IsAnswered Save bytes after a c in
    let so : IsSaved (text_on (opening Base) bytes) a c = record { finished = came.finished; written = written_after at _ a b c came.after came.nothing (done is) } in
    subst P (sym is) so
saved bytes at after a b c r came done cut big (inr (inl is)) =
    let P : StateStatus → Type 0 = IsAnswered Save bytes after a c in
    let so : IsCutOff (text_on (opening Base) bytes) a c = record { finished = came.finished; cut = cut_after at _ a b c came.after came.nothing (cut is) } in
    let one : P (Run status.WriteFault) = inr so in
    subst P (sym is) one
saved bytes at after a b c r came done cut big (inr (inr is)) =
    let P : StateStatus → Type 0 = IsAnswered Save bytes after a c in
    let long = big is in
    let kept : Keeps a c = subst (λ k. Keeps a k) (sym long.1) (Keeps-if a b came.nothing) in
    let so : IsTooBig (text_on (opening Base) bytes) a c = record { finished = came.finished; long = subst IsTooLong came.after long.0; kept = kept } in
    subst P (sym is) so

pub saved_told : (say : Say) (start at : RunState) (left after a b c : Option (List ℕ)) (s : Status) (r : StateStatus) → say ≡ Faults → start ≡ opening Base → s ≡ status.Done
    → IfSome left (λ bytes. IsOutputFrom say start bytes after a b s) → IfSome left (λ bytes. at ≡ (text_on start bytes).after) → (r ≡ Run status.Done → IsWritten at b c)
    → (r ≡ Run status.WriteFault → IsCut at b c) → (r ≡ TooBig → IsTooLong at × (c ≡ b)) → (r ≡ Run status.Done) ⊎ ((r ≡ Run status.WriteFault) ⊎ (r ≡ TooBig)) → HasAnswered (Some Save) left after a c r
saved_told say start at None after a b c s r l e d told past done cut big one = tt
saved_told say start at (Some bytes) after a b c s r l e d told past done cut big one = saved bytes at after a b c r (came_to say start at bytes after a b s l e d told past) done cut big one

-- ---- with `go`

gone : (bytes : List ℕ) (left a b : Option (List ℕ)) (s : Status) → s ≢ status.Usage → IsRunOn bytes left a b s → IsRunGone bytes left a b s
gone bytes left a b status.Done other t = t
gone bytes left a b (status.BadLine n) other t = t
gone bytes left a b (status.Full n) other t = t
gone bytes left a b status.ReadFault other t = inr t
gone bytes left a b status.WriteFault other t = t
gone bytes left a b status.NoMemory other t = inr t
gone bytes left a b status.Usage other t = absurd (other refl)

-- the rest was run from the checkpoint part's state
gone_from : (left0 left1 left2 a b : Option (List ℕ)) (taken : List ℕ) (start : RunState) (s : Status) → s ≢ status.Usage → IfSome left0 (λ bytes. IsTaken bytes taken left1)
    → IsState taken start → IsPlainRunState start → IsUnrefused taken → IfSome left1 (λ bytes. IsOutputFrom All start bytes left2 a b s) → HasAnswered (Some Go) left0 left2 a b (Run s)
gone_from None left1 left2 a b taken start s other read is plain free told = tt
gone_from (Some bytes) left1 left2 a b taken start s other read is plain free told =
    let r = restored bytes taken left1 start read is in
    let checkpoint_part : IsUnrefused (checkpoint_part_of bytes) = subst IsUnrefused r.2 free in
    let so : IsOutputFrom All start (rest_of bytes) left2 a b s = subst (λ o. IfSome o (λ l. IsOutputFrom All start l left2 a b s)) r.1 told in
    gone bytes left2 a b s other (record { unrefused = checkpoint_part; start = start; plain = plain; state = r.0; output = so })

pub gone_told : (left0 left1 left2 a b : Option (List ℕ)) (taken seen : List ℕ) (start : RunState) (s : Status) → seen ≡ taken → s ≢ status.Usage → IfSome left0 (λ bytes. IsTaken bytes taken left1)
    → IsState seen start → IsPlainRunState start → ((why : StateError) → IsRefused seen why → why ≡ errors.NoMemory) → IfSome left1 (λ bytes. IsOutputFrom All start bytes left2 a b s) → HasAnswered (Some Go) left0 left2 a b (Run s)
gone_told left0 left1 left2 a b taken seen start s e other read is plain free told =
    gone_from left0 left1 left2 a b taken start s other read (subst (λ l. IsState l start) e is) plain (subst IsUnrefused e (λ why apart bad. apart (free why bad))) told

-- a read failed within the checkpoint part
pub cut_told : (left0 left1 a : Option (List ℕ)) → IfSome left0 (λ bytes. IsCheckpointPartCut bytes left1) → HasAnswered (Some Go) left0 left1 a a (Run status.ReadFault)
cut_told None left1 a cut = tt
cut_told (Some bytes) left1 a cut = inl (cut, Keeps-same a)

-- the checkpoint part was refused
bad_checkpoint_part : (bytes : List ℕ) (left1 a : Option (List ℕ)) (taken : List ℕ) (why : StateError) → why ≢ errors.NoMemory → IsTaken bytes taken left1 → IsRefused taken why → IsBadState bytes left1 a a why
bad_checkpoint_part bytes left1 a taken why other read bad = record {
  taken = taken;
  read = read;
  refused = refused bytes taken left1 why read bad;
  refusal = other;
  kept = Keeps-same a;
}

-- or was not loaded for want of memory
unloaded : (bytes : List ℕ) (left1 a : Option (List ℕ)) (taken : List ℕ) (why : StateError) → IsTaken bytes taken left1 → IsRefused taken why → IsAnswered Go bytes left1 a a (answer_by why)
unloaded bytes left1 a taken errors.NotState read bad = bad_checkpoint_part bytes left1 a taken errors.NotState (λ e. cc) read bad
unloaded bytes left1 a taken errors.Length read bad = bad_checkpoint_part bytes left1 a taken errors.Length (λ e. cc) read bad
unloaded bytes left1 a taken errors.Spelling read bad = bad_checkpoint_part bytes left1 a taken errors.Spelling (λ e. cc) read bad
unloaded bytes left1 a taken errors.Sums read bad = bad_checkpoint_part bytes left1 a taken errors.Sums (λ e. cc) read bad
unloaded bytes left1 a taken (errors.Unsound part) read bad = bad_checkpoint_part bytes left1 a taken (errors.Unsound part) (λ e. cc) read bad
unloaded bytes left1 a taken errors.NoMemory read bad = inl (Keeps-same a)

unloaded_from : (left0 left1 a : Option (List ℕ)) (taken : List ℕ) (why : StateError) → IfSome left0 (λ bytes. IsTaken bytes taken left1) → IsRefused taken why
    → HasAnswered (Some Go) left0 left1 a a (answer_by why)
unloaded_from None left1 a taken why read bad = tt
unloaded_from (Some bytes) left1 a taken why read bad = unloaded bytes left1 a taken why read bad

pub unloaded_told : (left0 left1 a : Option (List ℕ)) (taken seen : List ℕ) (why : StateError) (r : StateStatus) → seen ≡ taken → r ≡ answer_by why → IfSome left0 (λ bytes. IsTaken bytes taken left1)
    → IsRefused seen why → HasAnswered (Some Go) left0 left1 a a r
unloaded_told left0 left1 a taken seen why r e is read bad =
    let P : StateStatus → Type 0 = HasAnswered (Some Go) left0 left1 a a in
    subst P (sym is) (unloaded_from left0 left1 a taken why read (subst (λ l. IsRefused l why) e bad))

-- such an answer is not of a run, but for want of memory
pub not_run : (why : StateError) (s : Status) → s ≢ status.NoMemory → answer_by why ≢ Run s
not_run errors.NotState s other e = cc
not_run errors.Length s other e = cc
not_run errors.Spelling s other e = cc
not_run errors.Sums s other e = cc
not_run (errors.Unsound part) s other e = cc
not_run errors.NoMemory s other e = other (let same : status.NoMemory ≡ s = cc in sym same)
