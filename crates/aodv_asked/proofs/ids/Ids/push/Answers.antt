use Rattle.std.proofs.Common.{ap, sym, subst, ◌∙◌}
use Rattle.aodv_asked.specs.Intervals.{AreApart, ids_in}
use Rattle.aodv_asked.specs.Tops.{with_interval}
use Rattle.aodv_asked.proofs.TopLaws.{push_apart, ids_push}
use Rattle.aodv_asked.proofs.ids.Ids.push.Goals as goal

pub invariant_of-self : goal.invariant_of-self
invariant_of-self c =
    let vs = c.self.inside.intervals.items in
    subst (AreApart 0) (sym c.push.ensures.items) (push_apart vs c.args.top c.args.self.now.ids c.self.invariant (ap (λ s. s.ids) c.self.view_is) c.requires.behind c.requires.some)

pub returns-clause-ids : goal.returns-clause-ids
returns-clause-ids c =
    let vs = c.self.inside.intervals.items in
    let is = ap (λ s. s.ids) c.self.view_is in
    ap ids_in c.push.ensures.items
    ∙ ids_push vs c.args.top (push_apart vs c.args.top c.args.self.now.ids c.self.invariant is c.requires.behind c.requires.some)
    ∙ ap (λ s. with_interval s c.args.top) is
