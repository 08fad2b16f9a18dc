use Rattle.std.proofs.Common.{◌≡◌, ◌<◌, length, arith}
use Rattle.mesh_checkpoint.specs.Checkpoint.{station}
use Rattle.mesh_save.proofs.Puts.{next_at, all}
use Rattle.mesh_save.proofs.body.put_mesh.Goals as goal

pub loop-i-preserved : goal.loop-i-preserved
loop-i-preserved g c =
    let lt : c.loop-i.i < length c.args.mesh.now = omega arith in
    next_at g.P.Encoder.wrote g.met.P.Encoder.joins station.put c.args.mesh.now c.loop-i.i (0, 0) _ c.loop-i.encoder c.put32-in-loop-i.new.encoder lt c.loop-i.invariant
    (rw (← c.at.ensures, ← c.from.ensures, ← c.first.ensures.value, ← c.from-in-loop-i.ensures) (g.met.P.Encoder.joins _ _ _ _ _ c.put32.ensures c.put32-in-loop-i.ensures))

pub returns : goal.returns
returns g c =
    let same : c.loop-i.i ≡ length c.args.mesh.now = omega arith in
    rw (← c.len-nodes.ensures.value) (g.met.P.Encoder.joins _ _ _ _ _ c.put16.ensures (all g.P.Encoder.wrote station.put c.args.mesh.now c.loop-i.i _ _ same c.loop-i.invariant))
