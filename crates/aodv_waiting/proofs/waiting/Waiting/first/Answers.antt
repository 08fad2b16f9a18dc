use Rattle.std.proofs.Common.{map, ◌<◌, length, ap, sym, subst, ◌∙◌, refl, arith}
use Rattle.std.specs.List.{AllByRecursion}
use Rattle.aodv_model.specs.Cores.{has_data}
use Rattle.aodv_model.specs.Handlers.{first_body}
use Rattle.aodv_model.specs.Soundness.{IsDatum}
use Rattle.aodv_waiting.specs.Rows.{bodies_in_row}
use Rattle.aodv_waiting.proofs.StoreLaws.{rings_len, row_read, bodies_shown, front_some, front_none}
use Rattle.aodv_waiting.proofs.waiting.Waiting.first.Goals as goal

pub returns-in-Some-clause-some : goal.returns-in-Some-clause-some
returns-in-Some-clause-some c =
    let rings = c.self.inside.rows.items in
    let rows = map bodies_in_row rings in
    let lt : c.args.d < length rings = omega (arith, c.requires, rings_len _ rings _ (ap (λ s. s.rooms) c.self.view_is)) in
    let bodies = bodies_shown c.self.inside.needing rows c.args.self.now.store c.args.d (ap (λ s. s.store) c.self.view_is) ∙ row_read bodies_in_row rings c.args.d _ lt c.index.ensures in
    let there : 0 < length c.index.result.now.bodies = omega (arith, c.in-Some.ensures.some.0 refl) in
    let some = front_some c.index.result.now.bodies c.in-Some.body.now there c.in-Some.ensures.body in
    (λ _. ap has_data bodies ∙ some.0, λ _. refl)

pub returns-in-Some-clause-value : goal.returns-in-Some-clause-value
returns-in-Some-clause-value c =
    let rings = c.self.inside.rows.items in
    let rows = map bodies_in_row rings in
    let lt : c.args.d < length rings = omega (arith, c.requires, rings_len _ rings _ (ap (λ s. s.rooms) c.self.view_is)) in
    let bodies = bodies_shown c.self.inside.needing rows c.args.self.now.store c.args.d (ap (λ s. s.store) c.self.view_is) ∙ row_read bodies_in_row rings c.args.d _ lt c.index.ensures in
    let there : 0 < length c.index.result.now.bodies = omega (arith, c.in-Some.ensures.some.0 refl) in
    let some = front_some c.index.result.now.bodies c.in-Some.body.now there c.in-Some.ensures.body in
    c.as_slice.ensures ∙ some.1 ∙ ap first_body (sym bodies)

pub returns-in-Some-clause-datum : goal.returns-in-Some-clause-datum
returns-in-Some-clause-datum c =
    let rings = c.self.inside.rows.items in
    let lt : c.args.d < length rings = omega (arith, c.requires, rings_len _ rings _ (ap (λ s. s.rooms) c.self.view_is)) in
    let there : 0 < length c.index.result.now.bodies = omega (arith, c.in-Some.ensures.some.0 refl) in
    let some = front_some c.index.result.now.bodies c.in-Some.body.now there c.in-Some.ensures.body in
    subst IsDatum (sym c.as_slice.ensures) (some.2 (subst (AllByRecursion IsDatum) (row_read bodies_in_row rings c.args.d _ lt c.index.ensures) (c.self.invariant.bodies_are c.args.d)))

pub returns-in-None-clause-some : goal.returns-in-None-clause-some
returns-in-None-clause-some c =
    let rings = c.self.inside.rows.items in
    let rows = map bodies_in_row rings in
    let lt : c.args.d < length rings = omega (arith, c.requires, rings_len _ rings _ (ap (λ s. s.rooms) c.self.view_is)) in
    let bodies = bodies_shown c.self.inside.needing rows c.args.self.now.store c.args.d (ap (λ s. s.store) c.self.view_is) ∙ row_read bodies_in_row rings c.args.d _ lt c.index.ensures in
    let none = ap has_data bodies ∙ front_none c.index.result.now.bodies c.in-None.ensures.some.1 in
    (λ e. cc, λ e. sym none ∙ e)
