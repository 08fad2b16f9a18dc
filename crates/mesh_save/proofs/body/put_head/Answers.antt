use Rattle.mesh_save.proofs.body.put_head.Goals as goal

pub returns : goal.returns
returns g c =
    let j = g.met.P.Encoder.joins in
    rw (← c.variant.ensures, ← c.variant_byte.ensures, ← c.lines.ensures, ← c.sums-sums.ensures)
    (j _ _ _ _ _ c.put.ensures (j _ _ _ _ _ c.put64.ensures (j _ _ _ _ _ c.put64-2.ensures (j _ _ _ _ _ c.put64-3.ensures (j _ _ _ _ _ c.put64-4.ensures (j _ _ _ _ _ c.put64-5.ensures (j _ _ _ _ _ c.put64-6.ensures c.put64-7.ensures)))))))
