use Rattle.std.proofs.Common.{◌≡◌, ap, sym, ◌∙◌, length, arith}
use Rattle.std.specs.Prelude.{is_some}
use Rattle.std.specs.FinMap as maps
use Rattle.aodv_model.proofs.Keys.{below_none}
use Rattle.mesh_save.proofs.Keys.{count_more, at_most_one}
use Rattle.mesh_save.proofs.Tables.{routes_count}
use Rattle.mesh_save.proofs.routes.count_routes.Goals as goal

pub loop-d-init : goal.loop-d-init
loop-d-init c = (sym (ap length (below_none (c.args.node.now.core).rt)), omega arith)

pub loop-d-preserved : goal.loop-d-preserved
loop-d-preserved c =
    let rt = (c.args.node.now.core).rt in
    let here : c.is_some.result ≡ is_some (maps.get rt c.loop-d.d) = c.is_some.ensures ∙ ap is_some c.entry.ensures in
    (count_more rt c.loop-d.d c.loop-d.count c.from-count.result c.is_some.result c.loop-d.invariant.0 c.from-count.ensures here, omega (arith, c.loop-d.invariant.1, c.from-count.ensures, at_most_one c.is_some.result))

pub returns : goal.returns
returns c = routes_count c.args.nodes (c.args.node.now.core).ip (c.args.node.now.core).rt c.loop-d.d c.loop-d.count c.requires.sound c.loop-d-test.false c.loop-d.invariant.0
