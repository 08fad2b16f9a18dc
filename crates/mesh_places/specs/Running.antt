-- A run with places as a script: what each line and the end write, and the states they lead to.
use Rattle.mesh_shell.specs.Fold.{Fold}
use Rattle.mesh_text.specs.declared.verdict.Verdict.{Verdict}
use Rattle.mesh_run.specs.Running.{outcome_as}
use Rattle.mesh_grid.specs.Text.{placed_run}
use Rattle.mesh_places.specs.RunStates.{run_state_of, moved}
use Rattle.mesh_places.specs.declared.placed.Placed.{Placed}

-- a run with places as a script, with the reach that is part of its state
abbrev pub running : Fold Placed Verdict
running = record {
  head = λ p. (placed_run p.reach).head (run_state_of p);
  outcome = λ p piece. outcome_as (moved p) ((placed_run p.reach).outcome (run_state_of p) piece);
  ending = λ p.
      let end = (placed_run p.reach).ending (run_state_of p) in
      record { text = end.text; verdict = end.verdict; after = moved p end.after };
}
