use Rattle.std.proofs.Common.{sym, subst}
use Rattle.mesh_trail.specs.Trails.{AreKept, AreWalks}
use Rattle.mesh_trail.proofs.Moves.{swept}
use Rattle.mesh_trail.proofs.parts.Parts.make_room.Goals as goal
use Rattle.mesh_trail.proofs.parts.Parts.make_room.Goals.{then-len-self, else-len-self}

pub returns-in_err-reserve-clause-kept : goal.returns-in_err-reserve-clause-kept
returns-in_err-reserve-clause-kept c =
    let old = c.args.self.now in
    let kept : AreKept c.if-len-self.self = elim c.if-len-self.branch as (λ _. AreKept c.if-len-self.self) [
      | then-len-self w ↦ subst AreKept (sym w.self-is) (swept old.world old.nodes.items old.casts.items w.sweep.new.casts.items w.radio.result.now.flying w.radio.ensures.flying w.sweep.ensures c.requires)
      | else-len-self w ↦ subst AreKept (sym w.self-is) c.requires
    ] in
    subst (AreWalks c.if-len-self.self.world c.if-len-self.self.nodes.items) (sym c.reserve.ensures.items) kept

pub returns-clause-kept : goal.returns-clause-kept
returns-clause-kept c =
    let old = c.args.self.now in
    let kept : AreKept c.if-len-self.self = elim c.if-len-self.branch as (λ _. AreKept c.if-len-self.self) [
      | then-len-self w ↦ subst AreKept (sym w.self-is) (swept old.world old.nodes.items old.casts.items w.sweep.new.casts.items w.radio.result.now.flying w.radio.ensures.flying w.sweep.ensures c.requires)
      | else-len-self w ↦ subst AreKept (sym w.self-is) c.requires
    ] in
    subst (AreWalks c.if-len-self.self.world c.if-len-self.self.nodes.items) (sym c.reserve.ensures.items) kept
