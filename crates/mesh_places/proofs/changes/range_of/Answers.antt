use Rattle.std.proofs.Common.{◌∙◌, length, sym, ap}
use Rattle.mesh_text.specs.Schedule.{world_of}
use Rattle.mesh_places.proofs.ChangeLaws.{range_there, range_before}
use Rattle.mesh_places.proofs.changes.range_of.Goals as goal

pub returns-in-Some : goal.returns-in-Some
returns-in-Some c =
    range_there (world_of c.args.at.now) c.args.node _ _ c.range.result c.range.ensures.value
    (c.radio.ensures.links.0 ∙ ap (λ w. w.links) c.in-Some.ensures.world)
    (c.radio.ensures.size ∙ sym c.mesh-mesh.ensures.sound.count ∙ ap (λ w. length w.nodes) c.in-Some.ensures.world)

pub returns-in-None : goal.returns-in-None
returns-in-None c = c.new.ensures ∙ range_before c.args.at.now c.args.node c.in-None.ensures.some
