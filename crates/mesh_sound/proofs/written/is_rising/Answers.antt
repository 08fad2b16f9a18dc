use Rattle.std.proofs.Common.{◌+◌, sym, subst, arith}
use Rattle.mesh_sound.proofs.Rising.{IsLeft, begins, goes_on, falls}
use Rattle.mesh_sound.proofs.written.is_rising.Goals as goal

pub loop-k-init : goal.loop-k-init
loop-k-init c = begins c.args.m.now

pub returns-then-number-above : goal.returns-then-number-above
returns-then-number-above c = (
  λ t. absurd (let same = t in cc),
  λ rising. absurd (falls c.args.m.now c.loop-k.k c.loop-k.above c.pair.result c.pair.ensures (let is = c.from-number.ensures in let lt = c.if-number-above.true in omega arith) c.loop-k.invariant rising),
)

pub loop-k-preserved : goal.loop-k-preserved
loop-k-preserved c =
    subst (λ n. IsLeft c.args.m.now (c.loop-k.k + 1) (n + 1)) (sym c.from-number.ensures)
    (goes_on c.args.m.now c.loop-k.k c.loop-k.above c.pair.result c.pair.ensures (let is = c.from-number.ensures in let le = c.if-number-above.false in omega arith) c.loop-k.invariant)
