use Rattle.std.proofs.Common.{ap, ◌∙◌}
use Rattle.mesh_model.specs.Accounts.{any, doubled_at, dropped_data}
use Rattle.mesh_world.specs.Steps.{is_idle}
use Rattle.mesh_world.proofs.Gains.{gives_none}
use Rattle.mesh_world.proofs.event_counts.counts_of_heard.Goals as goal

pub returns : goal.returns
returns c = λ from bytes air mesh x old new packet e all is. record {
  idle = ap is_idle is;
  given = gives_none old new e _ tt is;
  delivered = c.delivers_heard.ensures from bytes air mesh x old new packet e all is;
  dropped = ap (dropped_data any e) is ∙ c.drops_heard.ensures from bytes air mesh x new packet e all;
  doubled = ap doubled_at is;
}
