-- A run over a channel as a script: what each line and the end write, and the states they lead to.
use Rattle.mesh_shell.specs.Fold.{Fold}
use Rattle.mesh_text.specs.declared.verdict.Verdict.{Verdict}
use Rattle.mesh_run.specs.Outputs.{says_lines}
use Rattle.mesh_run.specs.Running.{outcome_as, said, last_said}
use Rattle.mesh_channel.specs.Text.{channel_run}
use Rattle.mesh_channel.specs.RunStates.{run_state_of, moved}
use Rattle.mesh_channel.specs.declared.channeled.Channeled.{Channeled}

-- the run over a channel of these rates; its `say` decides how much of the text is written
abbrev pub running : Fold Channeled Verdict
running = record {
  head = λ p. (channel_run p.rates).head (run_state_of p);
  outcome = λ p piece.
      outcome_as (moved p)
      (said (says_lines p.say) ((channel_run p.rates).outcome (run_state_of p) piece));
  ending = λ p.
      let end = (channel_run p.rates).ending (run_state_of p) in
      record { text = last_said p.say end.text; verdict = end.verdict; after = moved p end.after };
}
