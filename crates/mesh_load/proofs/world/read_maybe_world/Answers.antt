use Rattle.std.proofs.Common.{◌≢◌, []}
use Rattle.std.proofs.lemmas.Bool.{both_ways}
use Rattle.std.proofs.lemmas.Result.{err_from_is_err_and}
use Rattle.mesh_load.proofs.BodyParts.{fitting_there, world_refused, world_made}
use Rattle.mesh_load.proofs.world.read_maybe_world.Goals as goal

pub read_world-requires-clause-fitting : goal.read_world-requires-clause-fitting
read_world-requires-clause-fitting c =
    let some : c.args.mesh.now ≢ [] = λ e. both_ways c.is_empty.result c.if-is_empty.false (c.is_empty.ensures.1 e) in
    fitting_there c.args.mesh.now c.args.bytes.now c.in-Some.there c.in-Some.rest.now c.in-Some.ensures.value c.if-there-eq0.false some c.requires

pub returns-in_err-read_world : goal.returns-in_err-read_world
returns-in_err-read_world c =
    let some : c.args.mesh.now ≢ [] = λ e. both_ways c.is_empty.result c.if-is_empty.false (c.is_empty.ensures.1 e) in
    let p = err_from_is_err_and c.from_residual.result c.from_residual.ensures.1 in
    rw (p.1, p.2) (world_refused c.args.mesh.now c.args.variant c.args.bytes.now c.in-Some.there c.in-Some.rest.now c.in_err-read_world.field-0.0 c.in-Some.ensures.value c.if-there-eq0.false some c.in_err-read_world.ensures)

pub returns : goal.returns
returns c =
    let some : c.args.mesh.now ≢ [] = λ e. both_ways c.is_empty.result c.if-is_empty.false (c.is_empty.ensures.1 e) in
    world_made c.args.mesh.now c.args.variant c.args.bytes.now c.in-Some.there c.in-Some.rest.now c.in_ok-read_world.field-0 c.in-Some.ensures.value c.if-there-eq0.false some c.in_ok-read_world.ensures
