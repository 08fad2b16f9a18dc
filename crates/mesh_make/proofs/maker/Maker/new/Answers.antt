use Rattle.std.proofs.Common.{refl, sym, ◌∙◌, arith}
use Rattle.mesh_make.proofs.Stages.{from_start, no_nodes}
use Rattle.mesh_make.proofs.maker.Maker.new.Goals as goal

pub returns-clause-making : goal.returns-clause-making
returns-clause-making c = record { size = c.requires.size; stage = omega (arith, c.requires.size.two); mesh = c.new.ensures ∙ sym no_nodes }

pub returns-clause-text : goal.returns-clause-text
returns-clause-text c = rw c.start.ensures (from_start c.args.seed c.args.nodes c.args.steps)

pub returns-clause-opening : goal.returns-clause-opening
returns-clause-opening c = λ variant. record { mesh = sym c.new.ensures; waits = λ _. refl }
