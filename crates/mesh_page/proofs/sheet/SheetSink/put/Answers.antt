use Rattle.mesh_page.proofs.Behind.{further}
use Rattle.mesh_page.proofs.sheet.SheetSink.put.Goals as goal

pub invariant_of-self-2-clause-behind : goal.invariant_of-self-2-clause-behind
invariant_of-self-2-clause-behind g c =
    further c.args.self.now.len c.lay-n.result g.L.Lent.start c.args.self.now.memory.now _ c.lay-n.ensures.behind c.args.self.now.behind
