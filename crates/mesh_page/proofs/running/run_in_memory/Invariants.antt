use Rattle.mesh_page.proofs.running.run_in_memory.Given as goal

abbrev pub ghosts-run_into : goal.ghosts-run_into
ghosts-run_into a = record { name = a.out.ghost_name; start = a.out.now }
