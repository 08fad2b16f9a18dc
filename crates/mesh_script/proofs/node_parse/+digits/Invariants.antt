use Rattle.mesh_script.proofs.node_parse.+digits.Given as goal

abbrev pub decreases-digits : goal.decreases-digits
decreases-digits l = l.n
