use Rattle.std.proofs.Common.{subst, sym}
use Rattle.std.proofs.lemmas.Result.{err_from_is_err_and}
use Rattle.mesh_text.specs.Schedule.{RunState}
use Rattle.mesh_report.specs.Sums.{sums_of}
use Rattle.mesh_checkpoint.specs.Checkpoint.{body}
use Rattle.mesh_load.specs.Parts.{IsMade, IsRunStateOf}
use Rattle.mesh_load.proofs.Making.{has_parts, fitting_read, refused, fits_point, balanced_point, point_made}
use Rattle.mesh_load.proofs.loading.restore.Goals as goal

pub read_maybe_world-requires : goal.read_maybe_world-requires
read_maybe_world-requires c =
    let parts = has_parts c.args.body.now c.in-Some.rest.now c.in-Some-read_mesh.rest.now c.in-Some.head c.in-Some-read_mesh.mesh c.requires c.in-Some.ensures.value c.in-Some-read_mesh.ensures in
    fitting_read c.args.body.now c.in-Some-read_mesh.rest.now c.in-Some.head c.in-Some-read_mesh.mesh parts

pub returns-in_err-world : goal.returns-in_err-world
returns-in_err-world c =
    let parts = has_parts c.args.body.now c.in-Some.rest.now c.in-Some-read_mesh.rest.now c.in-Some.head c.in-Some-read_mesh.mesh c.requires c.in-Some.ensures.value c.in-Some-read_mesh.ensures in
    let p = err_from_is_err_and c.from_residual.result c.from_residual.ensures.1 in
    rw (p.1, p.2) (refused c.args.body.now c.in-Some-read_mesh.rest.now c.in-Some.head c.in-Some-read_mesh.mesh c.in_err-world.field-0.0 parts c.in_err-world.ensures)

pub from_parts-requires-clause-world : goal.from_parts-requires-clause-world
from_parts-requires-clause-world c =
    let parts = has_parts c.args.body.now c.in-Some.rest.now c.in-Some-read_mesh.rest.now c.in-Some.head c.in-Some-read_mesh.mesh c.requires c.in-Some.ensures.value c.in-Some-read_mesh.ensures in
    fits_point c.args.body.now c.in-Some-read_mesh.rest.now c.in-Some.head c.in-Some-read_mesh.mesh c.in_ok-world.world parts c.in_ok-world.ensures

pub returns-in-Some-from_parts : goal.returns-in-Some-from_parts
returns-in-Some-from_parts c =
    let parts = has_parts c.args.body.now c.in-Some.rest.now c.in-Some-read_mesh.rest.now c.in-Some.head c.in-Some-read_mesh.mesh c.requires c.in-Some.ensures.value c.in-Some-read_mesh.ensures in
    let made = point_made c.args.body.now c.in-Some-read_mesh.rest.now c.in-Some.head c.in-Some-read_mesh.mesh c.in_ok-world.world (sums_of c.sums_in.result) c.in-Some-from_parts.point parts c.in_ok-world.ensures c.sums_in.ensures (c.in-Some.ensures.below).lines c.in-Some-from_parts.ensures.state c.world-world.ensures.safe in
    subst (λ (m : RunState). IsMade IsRunStateOf (body.get c.args.body.now) m) (sym c.point.view_is) made

pub returns-in-None : goal.returns-in-None
returns-in-None c =
    let parts = has_parts c.args.body.now c.in-Some.rest.now c.in-Some-read_mesh.rest.now c.in-Some.head c.in-Some-read_mesh.mesh c.requires c.in-Some.ensures.value c.in-Some-read_mesh.ensures in
    let some = c.in-None.ensures.exact.1 (balanced_point c.args.body.now c.in-Some-read_mesh.rest.now c.in-Some.head c.in-Some-read_mesh.mesh c.in_ok-world.world (sums_of c.sums_in.result) parts c.in_ok-world.ensures c.sums_in.ensures) in
    cc
