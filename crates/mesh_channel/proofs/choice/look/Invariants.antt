use Rattle.std.proofs.Common.{◌≡◌, length}
use Rattle.mesh_channel.specs.Choices.{in_flight}
use Rattle.mesh_channel.proofs.choice.look.Given as goal

abbrev pub invariant-dues : goal.invariant-dues
invariant-dues l = record {
  same : l.channel ≡ record l.initial.channel { plan = l.channel.plan };
  left : in_flight l.world.world.flying l.channel.plan ≡ in_flight l.world.world.flying l.initial.channel.plan;
}

abbrev pub decreases-dues : goal.decreases-dues
decreases-dues l = length l.channel.plan
