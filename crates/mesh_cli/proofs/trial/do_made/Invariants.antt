-- What is still to come says the same last line as the whole, and nothing was written yet.
use Rattle.std.proofs.Common.{◌≡◌, ◌≤◌, ◌+◌, ◌*◌, [], length}
use Rattle.std.specs.Io.KnownBytes.{Appends}
use Rattle.mesh_base.specs.declared.limits.TheConstants.{MOST_EVENTS}
use Rattle.mesh_text.specs.Text.{text_on}
use Rattle.mesh_make.specs.Making.{IsMaking, HasCome, still_to_come}
use Rattle.mesh_run.specs.declared.say.Say.TheVariants.{Last}
use Rattle.mesh_run.specs.Outputs.{part}
use Rattle.mesh_cli.proofs.trial.do_made.Given as goal

abbrev pub invariant-lines : goal.invariant-lines
invariant-lines g l = record {
  making : IsMaking l.maker;
  come : HasCome l.maker l.at;
  same : part Last (text_on l.at (still_to_come l.maker)) ≡ part Last (text_on l.fn.at (still_to_come l.fn.maker));
  none : Appends (g.O.Sink.held l.fn.out) (g.O.Sink.held l.out) [];
  faults : g.O.Sink.faults l.out ≡ g.O.Sink.faults l.fn.out;
  short : length (still_to_come l.maker) ≤ length (still_to_come l.fn.maker);
  few : l.at.lines + length (still_to_come l.maker) ≤ l.fn.at.lines + length (still_to_come l.fn.maker);
  steps : l.at.steps + MOST_EVENTS * length (still_to_come l.maker) ≤ l.fn.at.steps + MOST_EVENTS * length (still_to_come l.fn.maker);
}

abbrev pub decreases-lines : goal.decreases-lines
decreases-lines g l = length (still_to_come l.maker)
