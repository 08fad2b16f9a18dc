use Rattle.std.proofs.Common.{rules, arith}
use Rattle.mesh_io.proofs.Writing.{Appends-join, take_on}
use Rattle.mesh_io.proofs.put.put_prefix.Goals as goal

pub loop-written-preserved : goal.loop-written-preserved
loop-written-preserved g c = record {
  within = search rules;
  text = Appends-join _ _ _ _ _ _ (take_on c.loop-written.written c.in-Ok.n c.args.piece.now) c.loop-written.invariant.text c.in-Ok.ensures.bytes;
  none = search rules;
  empty = λ zero. absurd (omega arith);
}
