use Rattle.std.proofs.Common.{◌+◌, ◌/◌, ◌%◌, length, ap, arith}
use Rattle.std.specs.Fmt.{decimal}
use Rattle.std.proofs.lemmas.Fmt.{decimal_step}
use Rattle.std.proofs.lemmas.List.{length_push}
use Rattle.mesh_base.proofs.NumberLaws.{at_most_twenty}
use Rattle.mesh_script.proofs.node_parse.+digits.Goals as goal

pub returns-else-n-lt10-clause-few : goal.returns-else-n-lt10-clause-few
returns-else-n-lt10-clause-few t c =
    let step = decimal_step c.args.n (omega (arith, c.if-n-lt10.false)) c.ranges.n.fits in
    omega (arith, at_most_twenty c.args.n c.ranges.n.fits, ap length step, length_push (decimal (c.args.n / 10)) (48 + c.args.n % 10), c.digits.ensures.value)
