use Rattle.std.proofs.Common.{sym, rules}
use Rattle.mesh_io.proofs.FirstLines.{ends_at}
use Rattle.mesh_io.proofs.Deciding.{decision_line}
use Rattle.mesh_io.proofs.decision.decide.Goals as goal

pub returns-then-len-most-2 : goal.returns-then-len-most-2
returns-then-len-most-2 c =
    let n = c.in-Some.len in
    let found = c.in-Some.ensures in
    let first = ends_at c.args.bytes.now n found.0.high found.0.before found.1 in
    sym (decision_line c.args.most c.args.given c.args.ended c.args.bytes.now n first found.0.high (search rules) (search rules))
