use Rattle.std.proofs.Common.{◌≡◌, [], ◌∷◌, ◌++◌, Option, None, ap, sym, ◌∙◌, arith}
use Rattle.aodv_model.specs.declared.entry.Entry.{Entry}
use Rattle.aodv_table.proofs.IndexLaws.{one_more, empty_more}
use Rattle.aodv_table.proofs.WholeRows.{length_whole, whole_empty}
use Rattle.aodv_table.proofs.row_list.RowList.new.Goals as goal

pub loop-preserved : goal.loop-preserved
loop-preserved c =
    let pushed : c.push.new.self.items ≡ c.loop.rows.items ++ None ∷ [] = c.in_ok-push.ensures.items ∙ ap (λ (o : Option Entry). c.loop.rows.items ++ o ∷ []) c.new.ensures in
    record {
      each = one_more c.loop.rows.items c.push.new.self.items None c.loop.counter pushed c.loop.invariant.each;
      each_has = one_more c.loop.precursors.items c.push-in-loop.new.self.items c.new-in-loop.result c.loop.counter c.in_ok-push-2.ensures.items c.loop.invariant.each_has;
      none = empty_more c.loop.rows.items c.push.new.self.items pushed c.loop.invariant.none;
    }

pub invariant_of-result : goal.invariant_of-result
invariant_of-result c = c.loop.invariant.each_has ∙ sym c.loop.invariant.each

pub returns-clause-each : goal.returns-clause-each
returns-clause-each c = length_whole c.loop.rows.items c.loop.precursors.items (c.loop.invariant.each_has ∙ sym c.loop.invariant.each) ∙ c.loop.invariant.each ∙ omega arith

pub returns-clause-none : goal.returns-clause-none
returns-clause-none c = whole_empty c.loop.rows.items c.loop.precursors.items c.loop.invariant.none
