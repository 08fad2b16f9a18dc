use Rattle.mesh_state.proofs.top.go_on.Goals as goal

pub returns-clause-known : goal.returns-clause-known
returns-clause-known g c = c.do_input.ensures.known
