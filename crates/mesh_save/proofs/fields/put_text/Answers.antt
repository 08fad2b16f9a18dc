use Rattle.mesh_save.proofs.fields.put_text.Goals as goal

pub returns : goal.returns
returns g c = g.met.P.Encoder.joins _ _ _ _ _ c.put16.ensures c.put.ensures
