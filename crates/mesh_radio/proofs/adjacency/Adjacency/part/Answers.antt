use Rattle.std.proofs.Common.{◌<◌, false, length, ap, ◌∙◌, arith}
use Rattle.std.specs.FinSet as sets
use Rattle.mesh_model.specs.Worlds.{pair}
use Rattle.mesh_radio.specs.Kept.{Graph}
use Rattle.mesh_radio.proofs.Graphs.{Changes, parted, changed_mutual, parted_graph}
use Rattle.mesh_radio.proofs.adjacency.Adjacency.part.Goals as goal

changes : (c : goal.After-remove_from-2) → Changes c.self.inside.rows.items c.remove_from-2.new.rows.items c.args.a c.args.b false
changes c =
    let rows = c.self.inside.rows.items in
    let la : c.args.a < length rows = omega (arith, c.requires.first, ap (λ g. g.size) c.self.view_is) in
    let lb : c.args.b < length rows = omega (arith, c.requires.second, ap (λ g. g.size) c.self.view_is) in
    parted rows c.remove_from.new.rows.items c.remove_from-2.new.rows.items c.args.a c.args.b c.requires.differ la lb c.remove_from.ensures c.remove_from-2.ensures

pub invariant_of-self : goal.invariant_of-self
invariant_of-self c = changed_mutual c.self.inside.rows.items c.remove_from-2.new.rows.items c.args.a c.args.b false c.requires.differ (changes c) c.self.invariant

pub returns : goal.returns
returns c =
    parted_graph c.self.inside.rows.items c.remove_from-2.new.rows.items c.args.a c.args.b c.requires.differ (changes c) c.self.invariant
    ∙ ap (λ (g : Graph). record g { pairs = sets.remove g.pairs (pair c.args.a c.args.b) }) c.self.view_is
