use Rattle.std.proofs.Common.{◌+◌, ◌∷◌, [], length, map, ap, sym, subst, ◌∙◌, arith}
use Rattle.std.proofs.lemmas.List.{length-map, length-append}
use Rattle.aodv_waiting.specs.Rows.{bodies_in_row}
use Rattle.aodv_waiting.proofs.StoreLaws.{AreEmpty, empty_push, empty_rows, empty_store}
use Rattle.aodv_waiting.proofs.waiting.Waiting.new.Goals as goal

pub loop-init : goal.loop-init
loop-init c = record {
  len = ap length c.in_ok-rows.ensures.items;
  empty = subst (λ rings. AreEmpty (map bodies_in_row rings)) (sym c.in_ok-rows.ensures.items) tt;
}

pub loop-preserved : goal.loop-preserved
loop-preserved c =
    let items = c.in_ok-push.ensures.items in
    record {
      len = ap length items ∙ length-append c.loop.rows.items (c.new.result ∷ []) ∙ ap (λ n. n + 1) c.loop.invariant.len;
      empty = subst (λ rings. AreEmpty (map bodies_in_row rings)) (sym items) (empty_push bodies_in_row c.loop.rows.items c.new.result c.loop.invariant.empty c.new.ensures);
    }

pub invariant_of-result : goal.invariant_of-result
invariant_of-result c =
    let rows = map bodies_in_row c.loop.rows.items in
    empty_rows rows c.new-2.result c.new-3.result (omega (arith, length-map c.loop.rows.items bodies_in_row, c.loop.invariant.len, c.loop.auto.counter-end, c.requires)) c.loop.invariant.empty c.new-2.ensures c.new-3.ensures

pub returns-clause-store : goal.returns-clause-store
returns-clause-store c = empty_store c.new-3.result (map bodies_in_row c.loop.rows.items) c.loop.invariant.empty

pub returns-clause-nodes : goal.returns-clause-nodes
returns-clause-nodes c = length-map c.loop.rows.items _ ∙ c.loop.invariant.len ∙ omega (arith, c.loop.auto.counter-end, c.loop-test.false)
