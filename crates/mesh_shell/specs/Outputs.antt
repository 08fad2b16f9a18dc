-- Part of what the headline says.
-- What is known of a run: what the sink held before it, and what the sink holds now. If it isn't
-- known what a sink holds, only the verdict is claimed.
use Rattle.std.specs.Prelude.{ℕ, ◌≡◌, ◌⊎◌, true, List, [], ◌∷◌, ◌++◌, Option, Some, None, Result, Ok, Err}
use Rattle.std.specs.Io.KnownBytes.{Appends, Consumes}
use Rattle.mesh_io.specs.Puts.{AppendsPrefix}
use Rattle.mesh_io.specs.Cutting.{HasNoLf}
use Rattle.mesh_io.specs.declared.limits.Limits.{Limits}
use Rattle.mesh_shell.specs.Fold.{Outcome, On, Ended, Ending, Fold, RunText, whole, text_on}
use Rattle.mesh_shell.specs.declared.fault.Fault.{Fault}
use Rattle.mesh_shell.specs.declared.fault.Fault.TheVariants.{ReadFault, WriteFault, NoMemory}

-- ---- one line

-- it was done and its text written, and the run goes on from the next state
pub record IsLineDone {M V : Type 0} (k : Outcome M V) (n : M) (before now : Option (List ℕ))
    : Type 0 where
  pub text : List ℕ
  pub is : k ≡ On text n
  pub grown : Appends before now text

-- it has ended the run, and its text and the last text are written
pub record IsLineLast {M V : Type 0} (k : Outcome M V) (v : V) (before now : Option (List ℕ))
    : Type 0 where
  pub text : List ℕ
  pub last : List ℕ
  pub is : k ≡ Ended text last v
  pub grown : Appends before now (text ++ last)

-- all that a line writes
abbrev pub text_in : {M V : Type 0} → Outcome M V → List ℕ
text_in (On text n) = text
text_in (Ended text last v) = text ++ last

-- one of these two, or a fault, and a prefix of its text was written
abbrev pub IsLineRun : {M V : Type 0} → Outcome M V → M → Option (List ℕ) → Option (List ℕ)
    → Result (Option V) Fault → Type 0
IsLineRun k n before now (Ok None) = IsLineDone k n before now
IsLineRun k n before now (Ok (Some v)) = IsLineLast k v before now
IsLineRun k n before now (Err e) = AppendsPrefix before now (text_in k)

-- a line that can only end the run has done so
abbrev pub IsLastRun : {M V : Type 0} → Outcome M V → Option (List ℕ) → Option (List ℕ)
    → Result V Fault → Type 0
IsLastRun k before now (Ok v) = IsLineLast k v before now
IsLastRun k before now (Err e) = AppendsPrefix before now (text_in k)

-- ---- the head

-- it is written, and the state is the same
pub record IsHeadWritten {M : Type 0} (text : List ℕ) (m n : M) (before now : Option (List ℕ))
    : Type 0 where
  pub same : n ≡ m
  pub grown : Appends before now text

abbrev pub IsHeadRun : {M : Type 0} → List ℕ → M → M → Option (List ℕ) → Option (List ℕ)
    → Result (Unit {0}) Fault → Type 0
IsHeadRun text m n before now (Ok done) = IsHeadWritten text m n before now
IsHeadRun text m n before now (Err e) = AppendsPrefix before now text

-- ---- the end

-- the last text is written, and the state is the one after it
abbrev pub IsEndRun : {M V : Type 0} → Ending M V → M → Option (List ℕ) → Option (List ℕ)
    → Result V Fault → Type 0
IsEndRun e n before now (Ok v) = (v ≡ e.verdict) × (n ≡ e.after) × Appends before now e.text
IsEndRun e n before now (Err fault) = AppendsPrefix before now e.text

-- ---- a run

-- no byte, or the last is an LF
abbrev pub EndsWithLf : List ℕ → Type 0
EndsWithLf bytes = (bytes ≡ []) ⊎ ((front : List ℕ) × (bytes ≡ front ++ 10 ∷ []))

-- a read failed after some lines, each with its LF, and bytes without one were taken. The lines
-- were all done and none has ended the run, and their text was written, which is a prefix of what
-- the whole input comes to. `text` gives the run of an input
pub record IsCutShort {M V : Type 0} (text : List ℕ → RunText M V) (bytes : List ℕ)
    (left before now : Option (List ℕ)) : Type 0 where
  pub lines : List ℕ
  pub others : List ℕ
  pub whole_lines : EndsWithLf lines
  pub unended : HasNoLf others
  pub consumed : Consumes (Some bytes) left (lines ++ others)
  pub done : (text lines).complete ≡ true
  pub grown : Appends before now (text lines).lines
  pub prefix : AppendsPrefix before now (whole (text bytes))

-- the answer of a run of these bytes, after which the source has this left: the verdict, and the
-- whole text was written; or a read failed, and the text of the lines that were read whole was
-- written; or a write failed, or memory ran out, and a prefix of the text was written
abbrev pub IsOutputOf : {M V : Type 0} → (List ℕ → RunText M V) → List ℕ → Option (List ℕ)
    → Option (List ℕ) → Option (List ℕ) → Result V Fault → Type 0
IsOutputOf text bytes left before now (Ok v) =
    (v ≡ (text bytes).verdict) × Appends before now (whole (text bytes))
IsOutputOf text bytes left before now (Err ReadFault) = IsCutShort text bytes left before now
IsOutputOf text bytes left before now (Err WriteFault) =
    AppendsPrefix before now (whole (text bytes))
IsOutputOf text bytes left before now (Err NoMemory) =
    AppendsPrefix before now (whole (text bytes))

-- the answer of a script's run from a state on
abbrev pub IsOutputFrom : {M V : Type 0} → Fold M V → Limits → M → List ℕ → Option (List ℕ)
    → Option (List ℕ) → Option (List ℕ) → Result V Fault → Type 0
IsOutputFrom fold most m bytes left before now result =
    IsOutputOf (text_on fold most m) bytes left before now result
