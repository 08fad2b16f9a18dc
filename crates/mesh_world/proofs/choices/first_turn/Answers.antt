use Rattle.mesh_world.proofs.Choosing.{turn_first, turn_in}
use Rattle.mesh_world.proofs.choices.first_turn.Goals as goal

pub returns-clause-first : goal.returns-clause-first
returns-clause-first c = λ nodes mesh radio are. turn_first mesh nodes c.args.ready.now are radio c.first_turn.result c.first_turn.ensures.least

pub returns-clause-within : goal.returns-clause-within
returns-clause-within c = λ nodes mesh radio are. turn_in mesh nodes c.args.ready.now are c.first_turn.result c.first_turn.ensures.least
