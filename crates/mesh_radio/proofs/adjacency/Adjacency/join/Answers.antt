use Rattle.std.proofs.Common.{◌<◌, true, length, ap, ◌∙◌, arith}
use Rattle.std.specs.FinSet as sets
use Rattle.mesh_model.specs.Worlds.{pair}
use Rattle.mesh_radio.specs.Kept.{Graph}
use Rattle.mesh_radio.proofs.Graphs.{Changes, joined, changed_mutual, joined_graph}
use Rattle.mesh_radio.proofs.adjacency.Adjacency.join.Goals as goal

changes : (c : goal.After-add_to-2) → Changes c.self.inside.rows.items c.add_to-2.new.rows.items c.args.a c.args.b true
changes c =
    let rows = c.self.inside.rows.items in
    let la : c.args.a < length rows = omega (arith, c.requires.first, ap (λ g. g.size) c.self.view_is) in
    let lb : c.args.b < length rows = omega (arith, c.requires.second, ap (λ g. g.size) c.self.view_is) in
    joined rows c.add_to.new.rows.items c.add_to-2.new.rows.items c.args.a c.args.b c.requires.differ la lb c.add_to.ensures c.add_to-2.ensures

pub invariant_of-self : goal.invariant_of-self
invariant_of-self c = changed_mutual c.self.inside.rows.items c.add_to-2.new.rows.items c.args.a c.args.b true c.requires.differ (changes c) c.self.invariant

pub returns : goal.returns
returns c =
    joined_graph c.self.inside.rows.items c.add_to-2.new.rows.items c.args.a c.args.b c.requires.differ (changes c) c.self.invariant
    ∙ ap (λ (g : Graph). record g { pairs = sets.insert g.pairs (pair c.args.a c.args.b) }) c.self.view_is
