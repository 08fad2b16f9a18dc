use Rattle.std.proofs.Common.{◌≡◌, ◌∙◌, is_some, true, sym, ap}
use Rattle.mesh_base.specs.Meshes.{Nodes}
use Rattle.mesh_text.specs.Schedule.{line_of}
use Rattle.mesh_places.specs.RunStates.{run_state_of}
use Rattle.mesh_places.proofs.Placings.{as_made, as_begun, allowed_late}
use Rattle.mesh_places.proofs.placed.check_late.Goals as goal

pub returns-then-is_some-clause-same : goal.returns-then-is_some-clause-same
returns-then-is_some-clause-same c =
    let made : is_some c.args.at.now.point.world ≡ true = let a = c.world.ensures.some in let b = c.is_some.ensures in let d = c.if-is_some.true in cc in
    as_made c.args.at.now.reach (run_state_of c.args.at.now) c.args.bytes.now c.requires made

pub returns-in-Ok-clause-same : goal.returns-in-Ok-clause-same
returns-in-Ok-clause-same c =
    allowed_late c.args.at.now.reach (run_state_of c.args.at.now) c.args.bytes.now _ c.requires c.if-at.true (ap (λ (k : Nodes). line_of k true c.args.bytes.now) (sym c.mesh.ensures.value) ∙ sym c.in-Ok.ensures.value)

pub returns-clause-same : goal.returns-clause-same
returns-clause-same c = as_begun c.args.at.now.reach (run_state_of c.args.at.now) c.args.bytes.now c.requires c.if-at.false
