use Rattle.std.proofs.Common.{◌∙◌, sym, arith, rules}
use Rattle.mesh_base.specs.Stems.{stem_of}
use Rattle.mesh_base.proofs.StemLaws.{begins}
use Rattle.mesh_base.proofs.octets.Stem.behind.Goals as goal

pub returns-then-ends : goal.returns-then-ends
returns-then-ends c =
    let split = c.in_ok-front.ensures.cases in
    let own = c.in_ok-numbers.ensures.cases in
    begins c.args.self.now.width c.args.text.now c.in_ok-front.front.now c.in_ok-front.rest.now c.in_ok-numbers.numbers.now (stem_of c.args.self.now.high)
    split.1 split.2 (search rules) (omega (arith, split.3, c.if-self-gt8.false)) (split.3 ∙ sym own.3) (search rules) (search rules)
