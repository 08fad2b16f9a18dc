-- A schedule's run whose checkpoint was saved, and what the lines that follow come to below it.
use Rattle.std.specs.Prelude.{◌≡◌, ◌≤◌, ◌⊎◌, ℕ, List, [], ◌∷◌, ◌++◌, length}
use Rattle.mesh_base.specs.declared.limits.TheConstants.{LONGEST_INPUT}
use Rattle.mesh_base.specs.declared.events.Variant.TheVariants.{Base}
use Rattle.mesh_text.specs.Text.{RunText, lines_before, text_of_input}
use Rattle.mesh_text.specs.declared.verdict.Verdict.TheVariants.{Finished}
use Rattle.mesh_checkpoint.specs.Points.{IsState}

-- no bytes, or bytes that end with an LF
abbrev pub HasWholeLines : List ℕ → Type 0
HasWholeLines bytes = (bytes ≡ []) ⊎ ((prefix : List ℕ) × (bytes ≡ prefix ++ 10 ∷ []))

-- the schedule has whole lines, its run is done, and these bytes are the checkpoint of its last
-- state
pub record IsSavedOf (first saved : List ℕ) : Type 0 where
  pub whole : HasWholeLines first
  pub finished : (text_of_input Base first).verdict ≡ Finished
  pub state : IsState saved (text_of_input Base first).after

-- the run of the schedule followed by more lines, within the limit of an input, is the schedule's
-- lines and then this text of the others, with its verdict
abbrev pub IsTextBelow : List ℕ → (List ℕ → RunText) → Type 0
IsTextBelow first text =
    (more : List ℕ) → length (first ++ more) ≤ LONGEST_INPUT
    → text_of_input Base (first ++ more)
    ≡ lines_before (text_of_input Base first).lines (text more)
