use Rattle.mesh_save.proofs.radio_part.put_copy.Goals as goal

pub returns : goal.returns
returns g c =
    let j = g.met.P.Encoder.joins in
    j _ _ _ _ _ c.put64.ensures (j _ _ _ _ _ c.put16.ensures (j _ _ _ _ _ c.put16-2.ensures c.put_text.ensures))
