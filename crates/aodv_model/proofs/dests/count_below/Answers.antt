use Rattle.std.proofs.Common.{ltb, rules, arith}
use Rattle.std.proofs.lemmas.List.Sorted.{IsPartitionPoint-from_clause, IsPartitionedBy-ltb}
use Rattle.std.proofs.lemmas.Bool.{ltb-true, ltb-false}
use Rattle.aodv_model.proofs.RisingLaws.{falls_nowhere}
use Rattle.aodv_model.proofs.dests.count_below.Goals as goal

pub returns-clause-below : goal.returns-clause-below
returns-clause-below c =
    let parted = IsPartitionedBy-ltb (λ p. p.0) _ c.args.d (falls_nowhere _ c.requires) in
    let point = IsPartitionPoint-from_clause (λ p. ltb p.0 c.args.d) _ _ c.partition_point.ensures.partitioned parted (λ a r q k. search rules) in
    λ i lt. ltb-true _ _ (point.0 i (0, 0) (omega arith) lt)

pub returns-clause-above : goal.returns-clause-above
returns-clause-above c =
    let parted = IsPartitionedBy-ltb (λ p. p.0) _ c.args.d (falls_nowhere _ c.requires) in
    let point = IsPartitionPoint-from_clause (λ p. ltb p.0 c.args.d) _ _ c.partition_point.ensures.partitioned parted (λ a r q k. search rules) in
    λ i le lt. ltb-false _ _ (point.1 i (0, 0) le lt)
