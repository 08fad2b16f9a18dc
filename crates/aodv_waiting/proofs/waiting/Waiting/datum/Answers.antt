use Rattle.std.proofs.Common.{map, ◌<◌, length, List, ap, sym, subst, ◌∙◌, arith, Some}
use Rattle.std.specs.Prelude.{slice_get}
use Rattle.std.proofs.lemmas.List.{length-map}
use Rattle.std.specs.List.{AllByRecursion}
use Rattle.aodv_model.specs.Cores.{Body}
use Rattle.aodv_model.specs.Soundness.{IsDatum}
use Rattle.aodv_waiting.specs.Rows.{bodies_in_row}
use Rattle.aodv_waiting.proofs.StoreLaws.{row_read, bodies_shown, row_there, some_of_len, get_read, get_all}
use Rattle.aodv_waiting.proofs.waiting.Waiting.datum.Goals as goal

pub index-requires : goal.index-requires
index-requires c =
    let rings = c.self.inside.rows.items in
    let rows = map bodies_in_row rings in
    let bodies = bodies_shown c.self.inside.needing rows c.args.self.now.store c.args.d (ap (λ s. s.store) c.self.view_is) in
    let lt : c.args.d < length rings = omega (arith, length-map rings bodies_in_row, row_there rows c.args.d (some_of_len _ c.args.k (subst (λ (bs : List Body). c.args.k < length bs) bodies c.requires))) in
    omega arith

pub unreachable-requires : goal.unreachable-requires
unreachable-requires c =
    let rings = c.self.inside.rows.items in
    let rows = map bodies_in_row rings in
    let bodies = bodies_shown c.self.inside.needing rows c.args.self.now.store c.args.d (ap (λ s. s.store) c.self.view_is) in
    let less = subst (λ (bs : List Body). c.args.k < length bs) bodies c.requires in
    let lt : c.args.d < length rings = omega (arith, length-map rings bodies_in_row, row_there rows c.args.d (some_of_len _ c.args.k less)) in
    let here = subst (λ (bs : List Body). c.args.k < length bs) (row_read bodies_in_row rings c.args.d _ lt c.index.ensures) less in
    let none = c.in-None.ensures.some.1 here in
    cc

pub returns-clause-value : goal.returns-clause-value
returns-clause-value c =
    let rings = c.self.inside.rows.items in
    let rows = map bodies_in_row rings in
    let bodies = bodies_shown c.self.inside.needing rows c.args.self.now.store c.args.d (ap (λ s. s.store) c.self.view_is) in
    let less = subst (λ (bs : List Body). c.args.k < length bs) bodies c.requires in
    let lt : c.args.d < length rings = omega (arith, length-map rings bodies_in_row, row_there rows c.args.d (some_of_len _ c.args.k less)) in
    let here = subst (λ (bs : List Body). c.args.k < length bs) (row_read bodies_in_row rings c.args.d _ lt c.index.ensures) less in
    ap (λ (bs : List Body). slice_get bs c.args.k) (bodies ∙ row_read bodies_in_row rings c.args.d _ lt c.index.ensures) ∙ get_read c.index.result.now.bodies c.args.k c.in-Some.body.now here c.in-Some.ensures.body ∙ ap (λ (b : Body). Some b) (sym c.as_slice.ensures)

pub returns-clause-datum : goal.returns-clause-datum
returns-clause-datum c =
    let rings = c.self.inside.rows.items in
    let rows = map bodies_in_row rings in
    let bodies = bodies_shown c.self.inside.needing rows c.args.self.now.store c.args.d (ap (λ s. s.store) c.self.view_is) in
    let less = subst (λ (bs : List Body). c.args.k < length bs) bodies c.requires in
    let lt : c.args.d < length rings = omega (arith, length-map rings bodies_in_row, row_there rows c.args.d (some_of_len _ c.args.k less)) in
    let here = subst (λ (bs : List Body). c.args.k < length bs) (row_read bodies_in_row rings c.args.d _ lt c.index.ensures) less in
    subst IsDatum (sym c.as_slice.ensures)
    (get_all c.index.result.now.bodies c.args.k c.in-Some.body.now here c.in-Some.ensures.body (subst (AllByRecursion IsDatum) (row_read bodies_in_row rings c.args.d _ lt c.index.ensures) (c.self.invariant.bodies_are c.args.d)))
