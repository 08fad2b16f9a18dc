use Rattle.std.proofs.Common.{◌++◌, ◌∷◌, [], ap, sym, ◌∙◌, length, arith, subst}
use Rattle.std.specs.FinMap as maps
use Rattle.aodv_model.specs.Destinations.{IsRising}
use Rattle.aodv_model.proofs.RisingLaws.{entries_shown, pushed}
use Rattle.aodv_model.proofs.dests.Dests.push.Goals as goal

pub push-requires : goal.push-requires
push-requires c =
    let e = entries_shown c.self.inside.pairs.items c.args.self.now c.self.invariant c.self.view_is in
    omega (arith, ap length e)

pub invariant_of-self : goal.invariant_of-self
invariant_of-self c =
    let all = pushed c.self.inside.pairs.items c.args.d c.args.n c.self.invariant (λ q le. rw c.self.view_is (c.requires.above q le)) in
    subst IsRising (sym c.push.ensures.items) all.rising

pub returns-clause-map : goal.returns-clause-map
returns-clause-map c =
    let all = pushed c.self.inside.pairs.items c.args.d c.args.n c.self.invariant (λ q le. rw c.self.view_is (c.requires.above q le)) in
    ap maps.from_sorted c.push.ensures.items ∙ all.map ∙ ap (λ m. maps.insert m c.args.d c.args.n) c.self.view_is

pub returns-clause-entries : goal.returns-clause-entries
returns-clause-entries c =
    let all = pushed c.self.inside.pairs.items c.args.d c.args.n c.self.invariant (λ q le. rw c.self.view_is (c.requires.above q le)) in
    let e = entries_shown c.self.inside.pairs.items c.args.self.now c.self.invariant c.self.view_is in
    ap maps.entries (ap maps.from_sorted c.push.ensures.items) ∙ all.entries ∙ ap (λ es. es ++ (c.args.d, c.args.n) ∷ []) (sym e)
