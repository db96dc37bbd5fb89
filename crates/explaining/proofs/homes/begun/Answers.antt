use Rattle.std.proofs.Common.{leb, rules, arith}
use Rattle.std.proofs.lemmas.List.Sorted.{IsPartitionPoint-from_clause, IsPartitionedBy-leb}
use Rattle.explaining.specs.declared.homes.Home.{Home}
use Rattle.explaining.proofs.HomeLemmas.{last_is}
use Rattle.explaining.proofs.homes.begun.Goals as goal

pub returns : goal.returns
returns c =
    let parted = IsPartitionedBy-leb (λ (h : Home). h.at) _ c.args.at c.requires in
    let point = IsPartitionPoint-from_clause (λ (h : Home). leb h.at c.args.at) _ _ c.partition_point.ensures.partitioned parted (λ a r q k. search rules) in
    last_is c.args.homes.now c.args.at _ c.partition_point.ensures.bound (λ k d lt. point.0 k d (omega arith) lt) (λ k d low high. point.1 k d low high)
