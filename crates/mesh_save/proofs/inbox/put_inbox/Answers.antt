use Rattle.std.proofs.Common.{◌≡◌, length, arith}
use Rattle.mesh_save.specs.Bytes.{item_bytes}
use Rattle.mesh_save.proofs.Puts.{next, all}
use Rattle.mesh_save.proofs.inbox.put_inbox.Goals as goal

pub loop-k-preserved : goal.loop-k-preserved
loop-k-preserved g c = next g.P.Encoder.wrote g.met.P.Encoder.joins item_bytes c.args.inbox.now.items c.loop-k.k c.at.result.now _ _ _ c.at.ensures.value c.loop-k.invariant c.put_item.ensures

pub returns : goal.returns
returns g c =
    let same : c.loop-k.k ≡ length c.args.inbox.now.items = omega arith in
    rw (← c.len-count.ensures.value) (g.met.P.Encoder.joins _ _ _ _ _ c.put32.ensures (all g.P.Encoder.wrote item_bytes c.args.inbox.now.items c.loop-k.k _ _ same c.loop-k.invariant))
