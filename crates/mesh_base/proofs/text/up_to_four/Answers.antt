use Rattle.std.proofs.Common.{◌∙◌}
use Rattle.mesh_base.proofs.NumberLaws.{one_digit_is, two_digits_are, three_digits_are, four_digits_are}
use Rattle.mesh_base.proofs.text.up_to_four.Goals as goal

pub returns-then-n-lt10 : goal.returns-then-n-lt10
returns-then-n-lt10 c = c.front_of.ensures ∙ one_digit_is c.args.n _ c.if-n-lt10.true c.pair-2.ensures

pub returns-then-n-lt100 : goal.returns-then-n-lt100
returns-then-n-lt100 c = c.front_of-then-n-lt100.ensures ∙ two_digits_are c.args.n _ c.if-n-lt10.false c.if-n-lt100.true c.pair-2.ensures

pub returns-then-n-lt1000 : goal.returns-then-n-lt1000
returns-then-n-lt1000 c =
    c.front_of-then-n-lt1000.ensures ∙ three_digits_are c.args.n _ _ c.if-n-lt100.false c.if-n-lt1000.true c.pair.ensures c.pair-2.ensures

pub returns-else-n-lt1000 : goal.returns-else-n-lt1000
returns-else-n-lt1000 c =
    c.front_of-else-n-lt1000.ensures ∙ four_digits_are c.args.n _ _ c.if-n-lt1000.false c.requires c.pair.ensures c.pair-2.ensures
