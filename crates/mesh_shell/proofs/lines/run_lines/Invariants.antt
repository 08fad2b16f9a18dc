-- The lines that were given were done, and the others are to come.
use Rattle.std.proofs.Common.{◌≡◌, ◌≤◌, ◌-◌}
use Rattle.mesh_shell.proofs.Runs.{HasCome}
use Rattle.mesh_shell.proofs.lines.run_lines.Given as goal

abbrev pub invariant-lines : goal.invariant-lines
invariant-lines g s = record {
  same : g.L.LineReader.name s.lines ≡ g.L.LineReader.name s.fn.lines;
  most : g.L.LineReader.limits s.lines ≡ g.L.LineReader.limits s.fn.lines;
  come : HasCome g.R.Runner g.L.LineReader s.fn.lines s.lines s.fn.runner s.runner;
  few : g.L.LineReader.given s.lines ≤ (g.L.LineReader.limits s.fn.lines).input;
  reads : g.L.LineReader.faults s.lines ≡ g.L.LineReader.faults s.fn.lines;
}

abbrev pub decreases-lines : goal.decreases-lines
decreases-lines g s = (g.L.LineReader.limits s.fn.lines).input - g.L.LineReader.given s.lines
