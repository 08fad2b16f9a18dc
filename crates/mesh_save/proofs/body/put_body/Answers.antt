use Rattle.mesh_save.proofs.Worlds.{some_put, some_narrow, none_put, none_narrow}
use Rattle.mesh_save.proofs.body.put_body.Goals as goal

pub returns-in-Some-clause-bytes : goal.returns-in-Some-clause-bytes
returns-in-Some-clause-bytes g c =
    let j = g.met.P.Encoder.joins in
    let m = c.args.point.now in
    let is = c.in-Some.ensures in
    rw (some_put m.world _ m.mesh m.steps c.in-Some.world.now is.some is.world is.mesh is.steps, ← c.mesh.ensures.value)
    (j _ _ _ _ _ c.put_head.ensures (j _ _ _ _ _ c.put_mesh.ensures (j _ _ _ _ _ c.put_truth.ensures c.put_world.ensures.bytes)))

pub returns-in-Some-clause-narrow : goal.returns-in-Some-clause-narrow
returns-in-Some-clause-narrow g c =
    let m = c.args.point.now in
    let is = c.in-Some.ensures in
    some_narrow m.world _ m.mesh c.in-Some.world.now is.some is.world is.mesh c.put_world.ensures.narrow

pub returns-in-None-clause-bytes : goal.returns-in-None-clause-bytes
returns-in-None-clause-bytes g c =
    let j = g.met.P.Encoder.joins in
    let m = c.args.point.now in
    rw (none_put m.world m.mesh m.steps c.in-None.ensures.some, ← c.mesh.ensures.value)
    (j _ _ _ _ _ c.put_head.ensures (j _ _ _ _ _ c.put_mesh.ensures c.put_truth-in-None.ensures))

pub returns-in-None-clause-narrow : goal.returns-in-None-clause-narrow
returns-in-None-clause-narrow g c = none_narrow c.args.point.now.world c.args.point.now.mesh c.in-None.ensures.some
