use Rattle.std.proofs.Common.{◌≡◌, ◌+◌, ◌-◌, ◌*◌, ◌≤◌}
use Rattle.mesh_fates.specs.Channels.{decided}
use Rattle.mesh_fates.proofs.channel.Channel.decide.Given as goal

abbrev pub invariant-loop-id : goal.invariant-loop-id
invariant-loop-id l = record {
  done : decided l.rates l.unicast (l.end - l.id) l.id l.new l.self ≡ decided l.rates l.unicast l.count l.first (l.first + l.count) l.fn.self;
  tick : l.self.tick ≡ l.fn.self.tick;
  last : l.end ≡ l.first + l.count;
  new : l.end ≤ l.new;
  fits : l.new + l.end ≤ l.first + 2 * l.count + l.id;
}
