use Rattle.mesh_save.proofs.node.put_node.Goals as goal

pub returns-clause-bytes : goal.returns-clause-bytes
returns-clause-bytes g c =
    let j = g.met.P.Encoder.joins in
    rw (← c.sn.ensures.value, ← c.from.ensures, ← c.asked.ensures.pairs, ← c.waiting.ensures.store, ← c.inbox.ensures.items)
    (j _ _ _ _ _ c.put32.ensures (j _ _ _ _ _ c.put_routes.ensures.bytes (j _ _ _ _ _ c.put_asked.ensures.bytes (j _ _ _ _ _ c.put_store.ensures c.put_inbox.ensures))))
