use Rattle.mesh_save.proofs.saving.write_out.Given as goal

abbrev pub ghosts-write_through : goal.ghosts-write_through
ghosts-write_through g a = record { name = a.out.ghost_name; start = g.O.Sink.held a.out.now }
