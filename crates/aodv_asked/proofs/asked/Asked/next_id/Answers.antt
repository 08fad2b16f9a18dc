use Rattle.std.proofs.Common.{refl, ◌<◌, length, Some, None, ap, sym, ◌∙◌, arith}
use Rattle.aodv_asked.specs.Tops.{rows_with_tops}
use Rattle.aodv_asked.proofs.RowLaws.{greatest_is, greatest_none, next_is}
use Rattle.aodv_asked.proofs.KeptLaws.{nodes_len, top_read, greatest_topped}
use Rattle.aodv_asked.proofs.asked.Asked.next_id.Goals as goal

pub returns-in-None-clause-full : goal.returns-in-None-clause-full
returns-in-None-clause-full c =
    let rows = c.self.inside.rows.items in
    let tops = c.self.inside.tops.items in
    let v = c.index.result.now in
    let lt : c.args.o < length rows = omega (arith, c.requires, nodes_len rows c.self.inside.tops.items _ (ap (λ s. s.rooms) c.self.view_is)) in
    let top = top_read tops c.args.o v (omega (arith, c.self.invariant.each)) c.index.ensures in
    let is = greatest_none (rows_with_tops rows tops) c.args.self.now.pairs c.args.o (ap (λ s. s.pairs) c.self.view_is) (greatest_topped rows tops c.self.inside.roomy c.args.o v None lt c.self.invariant top c.in-None.ensures) in
    (λ e. cc, λ e. absurd (omega (arith, is, e)))

pub returns-in-None-clause-value : goal.returns-in-None-clause-value
returns-in-None-clause-value c =
    let rows = c.self.inside.rows.items in
    let tops = c.self.inside.tops.items in
    let v = c.index.result.now in
    let lt : c.args.o < length rows = omega (arith, c.requires, nodes_len rows c.self.inside.tops.items _ (ap (λ s. s.rooms) c.self.view_is)) in
    let top = top_read tops c.args.o v (omega (arith, c.self.invariant.each)) c.index.ensures in
    let is = greatest_none (rows_with_tops rows tops) c.args.self.now.pairs c.args.o (ap (λ s. s.pairs) c.self.view_is) (greatest_topped rows tops c.self.inside.roomy c.args.o v None lt c.self.invariant top c.in-None.ensures) in
    sym (next_is c.args.self.now.pairs c.args.o 0 is)

pub returns-in-Some-eq4294967295-clause-full : goal.returns-in-Some-eq4294967295-clause-full
returns-in-Some-eq4294967295-clause-full c =
    let rows = c.self.inside.rows.items in
    let tops = c.self.inside.tops.items in
    let v = c.index.result.now in
    let lt : c.args.o < length rows = omega (arith, c.requires, nodes_len rows c.self.inside.tops.items _ (ap (λ s. s.rooms) c.self.view_is)) in
    let top = top_read tops c.args.o v (omega (arith, c.self.invariant.each)) c.index.ensures in
    let is = greatest_is (rows_with_tops rows tops) c.args.self.now.pairs c.args.o c.in-Some-eq4294967295.field-0 (ap (λ s. s.pairs) c.self.view_is) (greatest_topped rows tops c.self.inside.roomy c.args.o v (Some c.in-Some-eq4294967295.field-0) lt c.self.invariant top c.in-Some-eq4294967295.ensures) in
    (λ e. omega (arith, is, c.in-Some-eq4294967295.field-0-test), λ e. refl)

pub returns-in-Some-clause-full : goal.returns-in-Some-clause-full
returns-in-Some-clause-full c =
    let rows = c.self.inside.rows.items in
    let tops = c.self.inside.tops.items in
    let v = c.index.result.now in
    let lt : c.args.o < length rows = omega (arith, c.requires, nodes_len rows c.self.inside.tops.items _ (ap (λ s. s.rooms) c.self.view_is)) in
    let top = top_read tops c.args.o v (omega (arith, c.self.invariant.each)) c.index.ensures in
    let is = greatest_is (rows_with_tops rows tops) c.args.self.now.pairs c.args.o c.in-Some.last (ap (λ s. s.pairs) c.self.view_is) (greatest_topped rows tops c.self.inside.roomy c.args.o v (Some c.in-Some.last) lt c.self.invariant top c.in-Some.ensures) in
    (λ e. cc, λ e. absurd (c.in-Some.last-test.1 (sym is ∙ e)))

pub returns-in-Some-clause-value : goal.returns-in-Some-clause-value
returns-in-Some-clause-value c =
    let rows = c.self.inside.rows.items in
    let tops = c.self.inside.tops.items in
    let v = c.index.result.now in
    let lt : c.args.o < length rows = omega (arith, c.requires, nodes_len rows c.self.inside.tops.items _ (ap (λ s. s.rooms) c.self.view_is)) in
    let top = top_read tops c.args.o v (omega (arith, c.self.invariant.each)) c.index.ensures in
    let is = greatest_is (rows_with_tops rows tops) c.args.self.now.pairs c.args.o c.in-Some.last (ap (λ s. s.pairs) c.self.view_is) (greatest_topped rows tops c.self.inside.roomy c.args.o v (Some c.in-Some.last) lt c.self.invariant top c.in-Some.ensures) in
    sym (next_is c.args.self.now.pairs c.args.o c.in-Some.last is)
