use Rattle.std.proofs.Common.{◌≡◌, ap, sym, ◌∙◌, length, arith}
use Rattle.std.specs.Prelude.{is_some}
use Rattle.std.specs.FinMap as maps
use Rattle.aodv_model.proofs.Keys.{below_none}
use Rattle.mesh_save.proofs.Keys.{count_more, at_most_one}
use Rattle.mesh_save.proofs.Tables.{waiting_there, waits_count}
use Rattle.mesh_save.proofs.store.count_waits.Goals as goal

pub loop-dest-init : goal.loop-dest-init
loop-dest-init c = (sym (ap length (below_none c.args.waiting.now.store)), omega arith)

pub loop-dest-preserved : goal.loop-dest-preserved
loop-dest-preserved c =
    let store = c.args.waiting.now.store in
    let here : c.has.result ≡ is_some (maps.get store c.loop-dest.dest) = c.has.ensures ∙ waiting_there c.args.nodes store c.loop-dest.dest c.requires.sound in
    (count_more store c.loop-dest.dest c.loop-dest.count c.from-count.result c.has.result c.loop-dest.invariant.0 c.from-count.ensures here, omega (arith, c.loop-dest.invariant.1, c.from-count.ensures, at_most_one c.has.result))

pub returns : goal.returns
returns c = waits_count c.args.nodes c.args.waiting.now.store c.loop-dest.dest c.loop-dest.count c.requires.sound c.loop-dest-test.false c.loop-dest.invariant.0
