use Rattle.mesh_meaning.specs.Events.{event_of}
use Rattle.mesh_trail.proofs.Prepared.{prepared_in}
use Rattle.mesh_trail.proofs.trail.TrailSteps.step.Goals as goal

pub follow-requires : goal.follow-requires
follow-requires c =
    let p = c.prepare.new.self in (
      p.world,
      record {
        step = c.step-answer.ensures.step;
        sound = c.step-answer.ensures.sound;
        kept = c.prepare.ensures.kept;
        prepared = prepared_in (event_of c.args.e.now) p.world c.step-answer.new.self p c.in_ok-prepare.ensures.prepared;
      },
    )
