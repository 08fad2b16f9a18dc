use Rattle.std.proofs.Common.{◌≡◌}
use Rattle.std.specs.Io.KnownBytes.{Appends}
use Rattle.mesh_text.specs.Runs.{run_state_after}
use Rattle.mesh_grid.specs.Links.{changes_below}
use Rattle.mesh_places.specs.RunStates.{change_lines}
use Rattle.mesh_places.proofs.changes.do_changes.Given as goal

abbrev pub invariant-loop-y : goal.invariant-loop-y
invariant-loop-y g l = record {
  point : l.at.point ≡ run_state_after l.fn.at.point (changes_below l.fn.at.reach l.fn.at.places l.near l.new l.y);
  only : l.at ≡ record l.fn.at { point = l.at.point };
  text : Appends (g.O.Sink.held l.fn.out) (g.O.Sink.held l.out) (change_lines l.fn.at.point.mesh (changes_below l.fn.at.reach l.fn.at.places l.near l.new l.y));
  faults : g.O.Sink.faults l.out ≡ g.O.Sink.faults l.fn.out;
}
