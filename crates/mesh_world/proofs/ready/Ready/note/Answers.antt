use Rattle.mesh_world.proofs.ReadySets.{below_same, filled, note_is}
use Rattle.std.proofs.Common.{ap, ◌∙◌}
use Rattle.mesh_world.specs.Noted.{has_items}
use Rattle.mesh_world.proofs.ready.Ready.note.Goals as goal

pub returns : goal.returns
returns c =
    note_is c.args.self.now c.args.node.now c.args.x c.args.nodes _ _ _ _ _ _ _ _ _ c.self.view_is c.put.ensures c.put-2.ensures c.put-3.ensures
    (filled _ _ c.is_empty.ensures ∙ ap has_items c.inbox.ensures.items)
    (c.has_below.ensures ∙ below_same c.args.nodes _ _ c.sendable.ensures)
    (c.has_below-2.ensures ∙ below_same c.args.nodes _ _ c.askable.ensures)
