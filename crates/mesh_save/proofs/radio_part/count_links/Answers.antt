use Rattle.std.proofs.Common.{◌≡◌, ◌<◌, ap, sym, ◌∙◌, ℕ, true, length, arith}
use Rattle.std.specs.FinSet as sets
use Rattle.std.proofs.lemmas.List.{length-map}
use Rattle.aodv_asked.specs.Requests.{ids_below}
use Rattle.aodv_model.specs.Pairs.{pairs_in}
use Rattle.aodv_model.proofs.PairKeys.{none_before, all_before}
use Rattle.mesh_save.specs.Links.{link_of}
use Rattle.mesh_save.proofs.Rows.{rows_count}
use Rattle.mesh_save.proofs.radio_part.count_links.Goals as goal

pub loop-a-init : goal.loop-a-init
loop-a-init c = (sym (ap length (none_before c.args.radio.now.ever)), omega arith)

pub loop-a-preserved : goal.loop-a-preserved
loop-a-preserved c =
    let ever = c.args.radio.now.ever in
    let are = (c.count-count.ensures.linked).earlier in
    let each : (q : ℕ) → sets.contains ever (c.loop-a.a, q) ≡ true → q < c.args.nodes = λ q is. let lt = (are (c.loop-a.a, q) is).1 in omega (arith, lt, c.requires.size) in
    let row : c.count_links_of-count.result ≡ length (ids_below c.args.nodes ever c.loop-a.a) = c.count_links_of-count.ensures.count ∙ length-map (ids_below c.args.nodes ever c.loop-a.a) (λ b. (c.loop-a.a, b)) in
    (rows_count ever c.loop-a.a c.args.nodes c.loop-a.count c.count_links_of-count.result each c.loop-a.invariant.0 row, omega (arith, c.loop-a.invariant.1, c.count_links_of-count.ensures.few, c.requires.few))

pub returns : goal.returns
returns c =
    let ever = c.args.radio.now.ever in
    let are = (c.count-count.ensures.linked).earlier in
    let each : (a b : ℕ) → sets.contains ever (a, b) ≡ true → a < c.loop-a.a = λ a b is. let h = are (a, b) is in omega (arith, h.0, h.1, c.requires.size, c.loop-a-test.false) in
    c.loop-a.invariant.0 ∙ ap length (all_before ever c.loop-a.a each) ∙ sym (length-map (pairs_in ever) (link_of c.args.radio.now.links))
