use Rattle.std.proofs.Common.{◌≤◌, ◌+◌, sym, subst, arith}
use Rattle.aodv_asked.specs.Insertions.{interval}
use Rattle.aodv_asked.specs.Tops.{HasOneMore}
use Rattle.aodv_asked.proofs.TopLaws.{grown_new, grown_end}
use Rattle.aodv_asked.proofs.interval.Interval.grown.Goals as goal

pub returns-then-self-clause-grown : goal.returns-then-self-clause-grown
returns-then-self-clause-grown c = grown_new c.args.self c.args.id (omega arith)

pub returns-clause-grown : goal.returns-clause-grown
returns-clause-grown c =
    let v = c.args.self in
    let near : c.args.id ≤ v.last + 1 = omega arith in
    subst (λ last. HasOneMore v c.args.id (interval v.first last)) (sym c.max.ensures) (grown_end v c.args.id (omega arith) (omega arith) near)
