use Rattle.std.proofs.Common.{◌≡◌, ◌<◌, ap, sym, ◌∙◌, length, arith}
use Rattle.std.specs.FinSet as sets
use Rattle.mesh_save.proofs.Keys.{at_most_one}
use Rattle.mesh_save.proofs.LinkRows.{in_order, none_up_to, count_next}
use Rattle.mesh_save.proofs.radio_part.count_links_of.Goals as goal

pub loop-b-init : goal.loop-b-init
loop-b-init c = (sym (ap length (none_up_to c.args.radio.now.size c.args.radio.now.ever c.args.a (c.count-count.ensures.linked).earlier)), omega arith)

pub loop-b-preserved : goal.loop-b-preserved
loop-b-preserved c =
    let ever = c.args.radio.now.ever in
    let lt : c.args.a < c.loop-b.b = omega arith in
    let here : c.stood.result ≡ sets.contains ever (c.args.a, c.loop-b.b) = c.stood.ensures ∙ in_order ever c.args.a c.loop-b.b lt in
    (count_next ever c.args.a c.loop-b.b c.loop-b.count c.from-count.result c.stood.result c.loop-b.invariant.0 c.from-count.ensures here, omega (arith, c.loop-b.invariant.1, c.from-count.ensures, at_most_one c.stood.result))
