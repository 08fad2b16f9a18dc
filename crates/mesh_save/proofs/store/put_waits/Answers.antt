use Rattle.std.proofs.Common.{◌≡◌, length, arith}
use Rattle.std.specs.FinMap as maps
use Rattle.aodv_model.specs.Cores.{bodies_in}
use Rattle.mesh_checkpoint.specs.Checkpoint.{datum}
use Rattle.mesh_save.proofs.Puts.{next, all}
use Rattle.mesh_save.proofs.store.put_waits.Goals as goal

pub loop-k-preserved : goal.loop-k-preserved
loop-k-preserved g c = next g.P.Encoder.wrote g.met.P.Encoder.joins datum.put (bodies_in (maps.get c.args.waiting.now.store c.args.dest)) c.loop-k.k c.datum.result.now _ _ _ c.datum.ensures.value c.loop-k.invariant c.put_text.ensures

pub returns : goal.returns
returns g c =
    let j = g.met.P.Encoder.joins in
    let bodies = bodies_in (maps.get c.args.waiting.now.store c.args.dest) in
    let same : c.loop-k.k ≡ length bodies = omega arith in
    rw (← c.needs_request.ensures, ← c.count-count.ensures)
    (j _ _ _ _ _ c.put16.ensures (j _ _ _ _ _ c.put_truth.ensures (j _ _ _ _ _ c.put32.ensures (all g.P.Encoder.wrote datum.put bodies c.loop-k.k _ _ same c.loop-k.invariant))))
