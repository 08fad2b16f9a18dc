use Rattle.std.proofs.Common.{◌-◌}
use Rattle.mesh_radio.specs.Copies.{from_id}
use Rattle.mesh_sound.specs.Claims.{Holds}
use Rattle.mesh_sound.proofs.Indices.{IsEnough}
use Rattle.mesh_sound.proofs.packets.holds_of_copies.Given as goal

abbrev pub invariant-loop-copy : goal.invariant-loop-copy
invariant-loop-copy l = IsEnough (λ f. Holds l.claim l.mesh l.nodes f.from f.bytes) l.radio.flying (from_id l.radio.flying l.start)

abbrev pub decreases-loop-copy : goal.decreases-loop-copy
decreases-loop-copy l = l.radio.next_copy - l.start
