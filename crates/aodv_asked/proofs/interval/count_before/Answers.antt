use Rattle.std.proofs.Common.{ltb, rules, arith}
use Rattle.std.proofs.lemmas.List.Sorted.{IsPartitionPoint-from_clause, IsPartitionedBy-ltb}
use Rattle.std.proofs.lemmas.Bool.{ltb-true, ltb-false}
use Rattle.aodv_asked.specs.Insertions.{interval}
use Rattle.aodv_asked.proofs.FindLaws.{ends_rise}
use Rattle.aodv_asked.proofs.interval.count_before.Goals as goal

pub returns : goal.returns
returns c =
    let parted = IsPartitionedBy-ltb (λ v. v.last) _ c.args.from (ends_rise _ c.requires) in
    let point = IsPartitionPoint-from_clause (λ v. ltb v.last c.args.from) _ _ c.partition_point.ensures.partitioned parted (λ a r q k. search rules) in
    record {
      within = c.partition_point.ensures.bound;
      before = λ i lt. ltb-true _ _ (point.0 i (interval 0 0) (omega arith) lt);
      after = λ i le lt. ltb-false _ _ (point.1 i (interval 0 0) le lt);
    }
