use Rattle.std.proofs.Common.{arith}
use Rattle.mesh_checkpoint.specs.Points.{route_of}
use Rattle.mesh_save.specs.Bytes.{route_bytes}
use Rattle.mesh_save.proofs.Puts.{entry, no_entries}
use Rattle.mesh_save.proofs.Tables.{routes_put, narrow_next, all_narrow}
use Rattle.mesh_save.proofs.routes.put_routes.Goals as goal

pub loop-d-init : goal.loop-d-init
loop-d-init g c = (no_entries g.P.Encoder.wrote (λ e. route_bytes (route_of e)) (c.args.node.now.core).rt _ (g.met.P.Encoder.nothing _), λ k e lt there. absurd (omega (arith, lt)))

pub loop-d-preserved : goal.loop-d-preserved
loop-d-preserved g c =
    let rt = (c.args.node.now.core).rt in
    (entry g.P.Encoder.wrote g.met.P.Encoder.joins (λ e. route_bytes (route_of e)) rt c.loop-d.d _ _ _ c.loop-d.invariant.0 c.put_route_to.ensures.bytes, narrow_next rt c.loop-d.d c.loop-d.invariant.1 c.put_route_to.ensures.narrow)

pub returns-clause-bytes : goal.returns-clause-bytes
returns-clause-bytes g c =
    rw (← c.count_routes.ensures) (g.met.P.Encoder.joins _ _ _ _ _ c.put16.ensures
    (routes_put g.P.Encoder.wrote c.args.nodes (c.args.node.now.core).ip (c.args.node.now.core).rt c.loop-d.d _ _ c.requires.sound c.loop-d-test.false c.loop-d.invariant.0))

pub returns-clause-narrow : goal.returns-clause-narrow
returns-clause-narrow g c = all_narrow c.args.nodes (c.args.node.now.core).ip (c.args.node.now.core).rt c.loop-d.d c.requires.sound c.loop-d-test.false c.loop-d.invariant.1
