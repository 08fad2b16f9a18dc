use Rattle.std.proofs.Common.{◌≡◌, ◌*◌, ap, arith}
use Rattle.mesh_base.specs.declared.limits.TheConstants.{LONGEST_INPUT}
use Rattle.mesh_io.specs.declared.limits.Limits.{Limits}
use Rattle.mesh_router.specs.Routers.{RunState}
use Rattle.mesh_router.specs.Seen.{most_grown}
use Rattle.mesh_router.proofs.Running.{opening_counts}
use Rattle.mesh_router.proofs.Script.{route_told}
use Rattle.mesh_router.proofs.run.route.Goals as goal

pub run_lines-requires-clause-room : goal.run_lines-requires-clause-room
run_lines-requires-clause-room g c =
    let m = c.args.routing.now.at.now in
    let none : m.lines ≡ 0 = ap (λ (m : RunState). m.lines) c.requires.opening in
    let most : (g.R.LineReader.limits c.args.lines.now).input ≡ LONGEST_INPUT = ap (λ (l : Limits). l.input) c.requires.most in
    record { open_at = c.requires.open; count = omega (arith, none, most); counts = opening_counts (most_grown * m.lines) m c.requires.opening }

pub returns-clause-known : goal.returns-clause-known
returns-clause-known g c =
    route_told g.O.Sink g.L.Link g.R.LineReader c.args.lines.now c.run_lines.new.lines c.args.routing.now c.run_lines.new.runner c.run_lines.result c.run_lines.ensures.ran c.requires.most c.requires.opening
