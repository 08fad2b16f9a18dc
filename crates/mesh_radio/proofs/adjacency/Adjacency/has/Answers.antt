use Rattle.std.proofs.Common.{◌<◌, length, sym, ap, ◌∙◌, arith}
use Rattle.std.specs.FinSet as sets
use Rattle.mesh_model.specs.Worlds.{are_linked}
use Rattle.mesh_radio.proofs.Graphs.{row-at, linked-is}
use Rattle.mesh_radio.proofs.adjacency.Adjacency.has.Goals as goal

pub returns : goal.returns
returns c =
    let rows = c.self.inside.rows.items in
    let within : c.args.a < length rows = omega (arith, ap (λ g. g.size) c.self.view_is) in
    c.has.ensures.value ∙ ap (λ s. sets.contains s c.args.b) (c.index.ensures ∙ row-at rows c.args.a c.index.result.now within)
    ∙ sym (linked-is rows c.args.a c.args.b c.self.invariant) ∙ ap (λ g. are_linked g.pairs c.args.a c.args.b) c.self.view_is
