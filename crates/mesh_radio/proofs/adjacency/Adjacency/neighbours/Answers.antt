use Rattle.std.proofs.Common.{◌≡◌, ◌<◌, length, sym, ap, subst, ◌∙◌, arith}
use Rattle.std.specs.FinSet as sets
use Rattle.mesh_model.specs.Worlds.{linked_below}
use Rattle.mesh_radio.specs.Kept.{row}
use Rattle.mesh_radio.proofs.Graphs.{row-at, neighbours-are, member-below}
use Rattle.mesh_radio.proofs.adjacency.Adjacency.neighbours.Goals as goal

is_row : (c : goal.After-result-1) → c.index.result.now ≡ row c.self.inside.rows.items c.args.a
is_row c =
    let within : c.args.a < length c.self.inside.rows.items = omega (arith, ap (λ g. g.size) c.self.view_is) in
    c.index.ensures ∙ row-at c.self.inside.rows.items c.args.a c.index.result.now within

pub returns-clause-value : goal.returns-clause-value
returns-clause-value c = is_row c ∙ neighbours-are c.self.inside.rows.items c.args.a c.self.invariant ∙ ap (λ g. linked_below g.pairs c.args.a g.size) c.self.view_is

pub returns-clause-below : goal.returns-clause-below
returns-clause-below c q is = subst (λ n. q < n) (ap (λ g. g.size) c.self.view_is) (member-below c.self.inside.rows.items c.args.a q c.self.invariant (ap (λ s. sets.contains s q) (sym (is_row c)) ∙ is))

pub returns-clause-apart : goal.returns-clause-apart
returns-clause-apart c = ap (λ s. sets.contains s c.args.a) (is_row c) ∙ c.self.invariant.apart c.args.a
