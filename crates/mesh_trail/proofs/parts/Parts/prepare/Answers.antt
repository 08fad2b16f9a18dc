use Rattle.std.proofs.Common.{length, ap, subst}
use Rattle.mesh_model.specs.InMesh.{IsEvent}
use Rattle.mesh_model.specs.Worlds as model
use Rattle.mesh_meaning.specs.Events.{event_of}
use Rattle.mesh_trail.proofs.Arrivals.{roomed_so}
use Rattle.mesh_trail.proofs.parts.Parts.prepare.Goals as goal

pub returns-in-Give-clause-kept : goal.returns-in-Give-clause-kept
returns-in-Give-clause-kept c =
    let p = c.args.self.now in
    let event = subst (λ (e : model.Event). IsEvent (length p.world.mesh) e) (ap event_of c.in-Give.is) c.requires.event in
    roomed_so p.world p.nodes.items c.make_list_room.new.nodes.items p.casts.items c.in-Give.node c.requires.kept event.0 c.make_list_room.ensures.same
