use Rattle.mesh_save.proofs.routes.put_route.Goals as goal

pub returns : goal.returns
returns g c =
    let j = g.met.P.Encoder.joins in
    rw (← c.from.ensures, ← c.is_known.ensures, ← c.is_valid.ensures)
    (j _ _ _ _ _ c.put16.ensures (j _ _ _ _ _ c.put32.ensures (j _ _ _ _ _ c.put_truth.ensures (j _ _ _ _ _ c.put_truth-2.ensures (j _ _ _ _ _ c.put.ensures (j _ _ _ _ _ c.put16-2.ensures c.put_members.ensures))))))
