use Rattle.std.proofs.Common.{◌≡◌, rules}
use Rattle.mesh_text.specs.Schedule.{with_world}
use Rattle.mesh_text.specs.Runs.{events_of_line}
use Rattle.mesh_script.specs.Seen.{accepted_of}
use Rattle.mesh_run.proofs.Ways.{err_of, way_of_start}
use Rattle.mesh_run.proofs.commands.do_rest.Goals as goal

pub returns-in-Show-clause-way : goal.returns-in-Show-clause-way
returns-in-Show-clause-way g c =
    let started_is : c.do_show.new.at ≡ with_world c.args.at.now = search rules in
    err_of c.do_show.result (way_of_start c.args.at.now c.do_show.new.at (events_of_line c.args.at.now (accepted_of c.args.line)) started_is)

pub returns-in-Route-clause-way : goal.returns-in-Route-clause-way
returns-in-Route-clause-way g c =
    let started_is : c.do_show-in-Route.new.at ≡ with_world c.args.at.now = search rules in
    err_of c.do_show-in-Route.result (way_of_start c.args.at.now c.do_show-in-Route.new.at (events_of_line c.args.at.now (accepted_of c.args.line)) started_is)

pub returns-in-Flight-clause-way : goal.returns-in-Flight-clause-way
returns-in-Flight-clause-way g c =
    let started_is : c.do_show-in-Flight.new.at ≡ with_world c.args.at.now = search rules in
    err_of c.do_show-in-Flight.result (way_of_start c.args.at.now c.do_show-in-Flight.new.at (events_of_line c.args.at.now (accepted_of c.args.line)) started_is)
