use Rattle.std.proofs.Common.{sym, ap, ◌∙◌}
use Rattle.mesh_trail.proofs.Gets.{got_some, got_none}
use Rattle.mesh_trail.proofs.Positions.{found, list_at}
use Rattle.mesh_trail.proofs.casts.find.Goals as goal

pub returns-in-Some : goal.returns-in-Some
returns-in-Some c =
    let at = got_some c.args.casts.now c.position_after.result c.in-Some.cast c.in-Some.ensures.lookup in
    c.as_slice.ensures ∙ sym (found c.args.casts.now c.args.id c.position_after.result c.position_after.ensures ∙ ap list_at at)

pub returns-in-None : goal.returns-in-None
returns-in-None c =
    let at = got_none c.args.casts.now c.position_after.result c.in-None.ensures.lookup in
    sym (found c.args.casts.now c.args.id c.position_after.result c.position_after.ensures ∙ ap list_at at)
