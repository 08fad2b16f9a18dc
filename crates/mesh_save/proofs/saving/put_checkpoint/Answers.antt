use Rattle.mesh_save.proofs.saving.put_checkpoint.Goals as goal

pub returns : goal.returns
returns g c =
    let j = g.met.P.Encoder.joins in
    j _ _ _ _ _ c.put.ensures (j _ _ _ _ _ c.put32.ensures c.put_body.ensures.bytes)
