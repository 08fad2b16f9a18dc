-- The statements that this crate proves of its definitions.
use Rattle.std.specs.Prelude.{◌≡◌, ◌≤◌, ℕ, List, ◌++◌, length}
use Rattle.mesh_base.specs.declared.limits.TheConstants.{LONGEST_INPUT}
use Rattle.mesh_base.specs.declared.events.Variant.TheVariants.{Base}
use Rattle.mesh_text.specs.Schedule.{RunState}
use Rattle.mesh_text.specs.Text.{lines_before, text_on, text_of_input}
use Rattle.mesh_text.specs.declared.verdict.Verdict.TheVariants.{Finished}
use Rattle.mesh_checkpoint.specs.Points.{IsState}
use Rattle.mesh_load.specs.RunStates.{IsPlainRunState}
use Rattle.mesh_state.specs.CheckpointParts.{checkpoint_part_of, rest_of}
use Rattle.mesh_state.specs.Saved.{HasWholeLines, IsSavedOf}

-- if an input is a checkpoint and what follows it, its checkpoint part is that checkpoint
abbrev pub CheckpointIsItsPart : Type 0
CheckpointIsItsPart = (m : RunState) (saved rest : List ℕ) → IsState saved m
    → (checkpoint_part_of (saved ++ rest) ≡ saved) × (rest_of (saved ++ rest) ≡ rest)

-- the run of a schedule of at most `LONGEST_INPUT` bytes in two parts, the first of which has whole
-- lines that were all allowed and done, is that of the first, and then that of the second from the
-- state after the first on
abbrev pub SavedRunGoesOn : Type 0
SavedRunGoesOn = (first second : List ℕ) → HasWholeLines first
    → length (first ++ second) ≤ LONGEST_INPUT → (text_of_input Base first).verdict ≡ Finished
    → text_of_input Base (first ++ second)
    ≡ lines_before (text_of_input Base first).lines
    (text_on (text_of_input Base first).after second)

-- the run of a schedule whose first part was saved is that of the first part, and then the run of
-- the second from a state with this checkpoint on
abbrev pub LoadedRunGoesOn : Type 0
LoadedRunGoesOn = (first second saved : List ℕ) (start : RunState) → IsSavedOf first saved
    → length (first ++ second) ≤ LONGEST_INPUT
    → IsPlainRunState start → IsState (checkpoint_part_of (saved ++ second)) start
    → text_of_input Base (first ++ second)
    ≡ lines_before (text_of_input Base first).lines (text_on start (rest_of (saved ++ second)))
