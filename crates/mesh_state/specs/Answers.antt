-- What a call has written and answered. If it isn't known what the sink holds, only the answer is
-- claimed.
use Rattle.std.specs.Prelude.{◌≡◌, ◌≢◌, ◌⊎◌, ℕ, List, ◌++◌, Option, IfSome, ⊤}
use Rattle.std.specs.Io.KnownBytes.{Keeps}
use Rattle.mesh_base.specs.declared.events.Variant.TheVariants.{Base}
use Rattle.mesh_io.specs.Cause.{Rose}
use Rattle.mesh_text.specs.Schedule.{RunState, opening}
use Rattle.mesh_text.specs.Text.{RunText, text_on}
use Rattle.mesh_text.specs.declared.verdict.Verdict.TheVariants.{Finished}
use Rattle.mesh_run.specs.declared.say.Say.TheVariants.{All, Faults}
use Rattle.mesh_run.specs.declared.status.Status.{Status}
use Rattle.mesh_run.specs.declared.status.Status.TheVariants.{Done, Usage, ReadFault, WriteFault, NoMemory}
use Rattle.mesh_run.specs.Outputs.{IsOutputOf, IsOutputFrom}
use Rattle.mesh_checkpoint.specs.Points.{IsState, IsTooLong}
use Rattle.mesh_save.specs.Saved.{IsWritten, IsCut}
use Rattle.mesh_load.specs.declared.error.StateError.{StateError}
use Rattle.mesh_load.specs.declared.error.StateError.TheVariants as errors
use Rattle.mesh_load.specs.Loading.{IsRefused}
use Rattle.mesh_load.specs.RunStates.{IsPlainRunState}
use Rattle.mesh_state.specs.declared.words.Asked.{Asked}
use Rattle.mesh_state.specs.declared.words.Asked.TheVariants.{Save, Go}
use Rattle.mesh_state.specs.declared.status.StateStatus.{StateStatus}
use Rattle.mesh_state.specs.declared.status.StateStatus.TheVariants.{Run, BadState, TooBig}
use Rattle.mesh_state.specs.CheckpointParts.{checkpoint_part_of, rest_of, IsTaken, IsCheckpointPartCut}
use Rattle.mesh_state.specs.Saved.{IsSavedOf, IsTextBelow}

-- ---- with `save`, of the run of a schedule

-- the run was done, and the checkpoint of its last state was written
pub record IsSaved (w : RunText) (before now : Option (List ℕ)) : Type 0 where
  pub finished : w.verdict ≡ Finished
  pub written : IsWritten w.after before now

-- the run was done, and a prefix of that checkpoint was written
pub record IsCutOff (w : RunText) (before now : Option (List ℕ)) : Type 0 where
  pub finished : w.verdict ≡ Finished
  pub cut : IsCut w.after before now

-- the run was done, its last state has too long a body for a checkpoint, and nothing was written
pub record IsTooBig (w : RunText) (before now : Option (List ℕ)) : Type 0 where
  pub finished : w.verdict ≡ Finished
  pub long : IsTooLong w.after
  pub kept : Keeps before now

-- if the run isn't done, what was written and answered is that of a run that writes its faults
-- alone
abbrev pub IsRunSaved : List ℕ → Option (List ℕ) → Option (List ℕ) → Option (List ℕ) → Status
    → Type 0
IsRunSaved bytes left before now Done = IsSaved (text_on (opening Base) bytes) before now
IsRunSaved bytes left before now WriteFault =
    IsOutputFrom Faults (opening Base) bytes left before now WriteFault
    ⊎ IsCutOff (text_on (opening Base) bytes) before now
IsRunSaved bytes left before now others =
    IsOutputFrom Faults (opening Base) bytes left before now others

-- ---- with `go`, of an input that begins with a checkpoint

-- no refusal applies. Lack of memory doesn't count as one
abbrev pub IsUnrefused : List ℕ → Type 0
IsUnrefused checkpoint_part =
    (why : StateError) → why ≢ errors.NoMemory → ¬ (IsRefused checkpoint_part why)

-- the checkpoint part is not refused, it is the checkpoint of one run state, and the rest was run
-- from there
pub record IsRunOn (bytes : List ℕ) (left before now : Option (List ℕ)) (s : Status) : Type 0 where
  pub unrefused : IsUnrefused (checkpoint_part_of bytes)
  pub start : RunState
  pub plain : IsPlainRunState start
  pub state : IsState (checkpoint_part_of bytes) start
  pub output : IsOutputFrom All start (rest_of bytes) left before now s

-- the checkpoint part was refused once it had been read, or for its first 8 bytes, and nothing was
-- written
pub record IsBadState (bytes : List ℕ) (left before now : Option (List ℕ)) (why : StateError)
    : Type 0 where
  pub taken : List ℕ
  pub read : IsTaken bytes taken left
  pub refused : IsRefused (checkpoint_part_of bytes) why
  pub refusal : why ≢ errors.NoMemory
  pub kept : Keeps before now

-- the run was as `ran` says; or nothing was written, since a read failed within the checkpoint
-- part, or memory ran out before the run
abbrev pub RanUnlessCut : (Status → Type 0) → List ℕ → Option (List ℕ) → Option (List ℕ)
    → Option (List ℕ) → Status → Type 0
RanUnlessCut ran bytes left before now Usage = ⊥
RanUnlessCut ran bytes left before now ReadFault =
    (IsCheckpointPartCut bytes left × Keeps before now) ⊎ ran ReadFault
RanUnlessCut ran bytes left before now NoMemory = Keeps before now ⊎ ran NoMemory
RanUnlessCut ran bytes left before now others = ran others

-- the rest was run from the checkpoint part's state on, unless the run didn't begin
abbrev pub IsRunGone : List ℕ → Option (List ℕ) → Option (List ℕ) → Option (List ℕ) → Status
    → Type 0
IsRunGone bytes left before now s =
    RanUnlessCut (IsRunOn bytes left before now) bytes left before now s

-- what was written and answered is what the second lines come to below the first
abbrev pub IsGoneOn : List ℕ → List ℕ → Option (List ℕ) → Option (List ℕ) → Option (List ℕ)
    → Status → Type 0
IsGoneOn first second left before now s =
    (text : List ℕ → RunText) × IsTextBelow first text
    × IsOutputOf All text second left before now s

-- ---- either

-- the call has answered for what was asked; the source gave these bytes, and has these left
abbrev pub IsAnswered : Asked → List ℕ → Option (List ℕ) → Option (List ℕ) → Option (List ℕ)
    → StateStatus → Type 0
IsAnswered Save bytes left before now (Run s) = IsRunSaved bytes left before now s
IsAnswered Save bytes left before now (BadState why) = ⊥
IsAnswered Save bytes left before now TooBig = IsTooBig (text_on (opening Base) bytes) before now
IsAnswered Go bytes left before now (Run s) = IsRunGone bytes left before now s
IsAnswered Go bytes left before now (BadState why) = IsBadState bytes left before now why
IsAnswered Go bytes left before now TooBig = ⊥

-- with `go`, if the source gave the checkpoint of a schedule's last state and then more lines, the
-- run went on as that of the schedule followed by these lines; the checkpoint isn't refused
abbrev pub IsContinued : Asked → List ℕ → Option (List ℕ) → Option (List ℕ) → Option (List ℕ)
    → StateStatus → Type 0
IsContinued Go bytes left before now (Run s) =
    (first second saved : List ℕ) → IsSavedOf first saved → bytes ≡ saved ++ second
    → RanUnlessCut (IsGoneOn first second left before now) bytes left before now s
IsContinued Go bytes left before now (BadState why) =
    (first second saved : List ℕ) → IsSavedOf first saved → bytes ≢ saved ++ second
IsContinued asked bytes left before now others = ⊤

-- with `save` the schedule's run is done, and its last state's body isn't too long; with `go` the
-- checkpoint part isn't refused, and the run of the rest is done
abbrev pub IsAllowed : Asked → List ℕ → Type 0
IsAllowed Save bytes =
    ((text_on (opening Base) bytes).verdict ≡ Finished)
    × ¬ (IsTooLong (text_on (opening Base) bytes).after)
IsAllowed Go bytes =
    IsUnrefused (checkpoint_part_of bytes)
    × ((start : RunState) → IsPlainRunState start → IsState (checkpoint_part_of bytes) start
    → (text_on start (rest_of bytes)).verdict ≡ Finished)

-- with `go` a refusal of the checkpoint part applies
abbrev pub HasRefusal : Asked → List ℕ → Type 0
HasRefusal Save bytes = ⊥
HasRefusal Go bytes =
    (why : StateError) × (why ≢ errors.NoMemory) × IsRefused (checkpoint_part_of bytes) why

-- the answer for a checkpoint part that isn't loaded
abbrev pub answer_by : StateError → StateStatus
answer_by errors.NotState = BadState errors.NotState
answer_by errors.Length = BadState errors.Length
answer_by errors.Spelling = BadState errors.Spelling
answer_by errors.Sums = BadState errors.Sums
answer_by (errors.Unsound part) = BadState (errors.Unsound part)
answer_by errors.NoMemory = Run NoMemory

-- the answer is a refusal of the checkpoint part
abbrev pub IsRefusal : StateStatus → Type 0
IsRefusal answer = (why : StateError) × (answer ≡ BadState why)

-- the call is done, or memory ran out
abbrev pub IsDoneOrShort : StateStatus → Type 0
IsDoneOrShort answer = (answer ≡ Run Done) ⊎ (answer ≡ Run NoMemory)

-- the checkpoint part is refused, or memory ran out
abbrev pub IsRefusalOrShort : StateStatus → Type 0
IsRefusalOrShort answer = IsRefusal answer ⊎ (answer ≡ Run NoMemory)

-- ---- what the clauses say about what is asked for and the bytes that the source gives. If nothing
-- is asked for, or the bytes aren't known, they say nothing

-- the call has answered for what was asked
abbrev pub HasAnswered : Option Asked → Option (List ℕ) → Option (List ℕ) → Option (List ℕ)
    → Option (List ℕ) → StateStatus → Type 0
HasAnswered asked given left before now answer =
    IfSome asked (λ a. IfSome given (λ bytes. IsAnswered a bytes left before now answer))

-- if what is asked for these bytes is allowed, and the counts of faults, from r to s for the source
-- and from w to x for the sink, show none, it was done, unless memory ran out
abbrev pub HasCompleted : Option Asked → Option (List ℕ) → (r s w x : ℕ) → StateStatus → Type 0
HasCompleted asked given r s w x answer =
    IfSome asked (λ a. IfSome given (λ bytes.
    IsAllowed a bytes → ¬ (Rose r s) → ¬ (Rose w x) → IsDoneOrShort answer))

-- if the checkpoint part is refused, and the source's count shows no fault, a refusal was answered,
-- unless memory ran out
abbrev pub HasRefused : Option Asked → Option (List ℕ) → (r s : ℕ) → StateStatus → Type 0
HasRefused asked given r s answer =
    IfSome asked (λ a. IfSome given (λ bytes.
    HasRefusal a bytes → ¬ (Rose r s) → IsRefusalOrShort answer))

-- if `go` got the checkpoint of a schedule's last state first, the run went on as that of the
-- schedule
abbrev pub HasGoneOn : Option Asked → Option (List ℕ) → Option (List ℕ) → Option (List ℕ)
    → Option (List ℕ) → StateStatus → Type 0
HasGoneOn asked given left before now answer =
    IfSome asked (λ a. IfSome given (λ bytes. IsContinued a bytes left before now answer))
