use Rattle.std.proofs.Common.{◌≡◌, Ok, ap, sym, subst}
use Rattle.mesh_script.specs.NodeLines.{AcceptedLine, Nothing}
use Rattle.mesh_script.specs.NodeSeen.{accepted_of}
use Rattle.mesh_router.specs.Lines.{outcome_of_line, refused_words}
use Rattle.mesh_router.specs.Runs.{IsLineRun}
use Rattle.mesh_router.specs.Joins.{adds-none}
use Rattle.mesh_router.proofs.Running.{blank_done}
use Rattle.mesh_router.proofs.lines.do_line.Goals as goal

pub returns-in-Blank-clause-line : goal.returns-in-Blank-clause-line
returns-in-Blank-clause-line g c =
    let m = c.args.at.now in
    let e : accepted_of c.args.line.now ≡ Nothing = ap accepted_of c.in-Blank.is in
    subst (λ (k : AcceptedLine). IsLineRun (outcome_of_line m k) (refused_words m.stage k) c.count_line.new.self (g.L.Link.arrived c.args.link.now) (g.L.Link.arrived c.args.link.now) (g.O.Sink.held c.args.out.now, g.L.Link.sent c.args.link.now) (g.O.Sink.held c.args.out.now, g.L.Link.sent c.args.link.now) (Ok tt)) (sym e)
    (blank_done m c.count_line.new.self (refused_words m.stage Nothing) _ _ c.count_line.ensures (adds-none _))
