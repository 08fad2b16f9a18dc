use Rattle.mesh_save.proofs.inbox.put_item.Goals as goal

pub returns-in-New : goal.returns-in-New
returns-in-New g c =
    let j = g.met.P.Encoder.joins in
    rw (c.in-New.is, ← c.as_slice.ensures) (j _ _ _ _ _ c.put_truth.ensures (j _ _ _ _ _ c.put16.ensures c.put_text.ensures))

pub returns-in-Heard : goal.returns-in-Heard
returns-in-Heard g c =
    let j = g.met.P.Encoder.joins in
    rw (c.in-Heard.is, ← c.as_slice-in-Heard.ensures) (j _ _ _ _ _ c.put_truth-in-Heard.ensures (j _ _ _ _ _ c.put16-in-Heard.ensures c.put_text-in-Heard.ensures))
