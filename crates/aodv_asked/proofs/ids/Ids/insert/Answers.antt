use Rattle.std.proofs.Common.{ap, sym, subst, ◌∙◌, arith, inl, inr, IsTrue}
use Rattle.std.specs.FinSet as sets
use Rattle.aodv_asked.specs.Intervals.{ids_in, AreApart, is_near_in}
use Rattle.aodv_asked.proofs.IntervalLaws.{apart-with_id, ids_in-with_id, near_is}
use Rattle.aodv_asked.proofs.ids.Ids.insert.Goals as goal

pub put-requires-clause-room : goal.put-requires-clause-room
put-requires-clause-room c =
    elim c.requires [
      | inl some ↦ inl (omega (arith, ap (λ s. s.room) c.self.view_is))
      | inr near ↦ inr (near_is c.self.inside.intervals.items c.args.id c.self.invariant ∙ subst (λ s. IsTrue (is_near_in s.ids c.args.id)) (sym c.self.view_is) near)
    ]

pub invariant_of-self : goal.invariant_of-self
invariant_of-self c = subst (AreApart 0) (sym c.put.ensures.items) (apart-with_id 0 c.self.inside.intervals.items c.args.id (omega arith) c.self.invariant)

pub returns-clause-ids : goal.returns-clause-ids
returns-clause-ids c =
    ap ids_in c.put.ensures.items ∙ ids_in-with_id c.self.inside.intervals.items c.args.id c.self.invariant ∙ ap (λ s. sets.insert s.ids c.args.id) c.self.view_is
