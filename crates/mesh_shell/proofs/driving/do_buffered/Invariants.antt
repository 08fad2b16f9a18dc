use Rattle.mesh_shell.proofs.driving.do_buffered.Given as goal

abbrev pub ghosts-do_through : goal.ghosts-do_through
ghosts-do_through g a = record { name = a.out.ghost_name; start = g.O.Sink.held a.out.now }
