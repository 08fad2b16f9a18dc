use Rattle.mesh_checkpoint.specs.Points.{waits_of}
use Rattle.mesh_save.specs.Bytes.{waits_bytes}
use Rattle.mesh_save.proofs.Puts.{entry, no_entries}
use Rattle.mesh_save.proofs.Tables.{waits_put}
use Rattle.mesh_save.proofs.store.put_store.Goals as goal

pub loop-dest-init : goal.loop-dest-init
loop-dest-init g c = no_entries g.P.Encoder.wrote (λ e. waits_bytes (waits_of e)) c.args.waiting.now.store _ (g.met.P.Encoder.nothing _)

pub loop-dest-preserved : goal.loop-dest-preserved
loop-dest-preserved g c = entry g.P.Encoder.wrote g.met.P.Encoder.joins (λ e. waits_bytes (waits_of e)) c.args.waiting.now.store c.loop-dest.dest _ _ _ c.loop-dest.invariant c.put_waits_for.ensures

pub returns : goal.returns
returns g c =
    rw (← c.count_waits.ensures) (g.met.P.Encoder.joins _ _ _ _ _ c.put16.ensures
    (waits_put g.P.Encoder.wrote c.args.nodes c.args.waiting.now.store c.loop-dest.dest _ _ c.requires.sound c.loop-dest-test.false c.loop-dest.invariant))
