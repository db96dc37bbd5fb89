use Rattle.std.proofs.Common.{leb, rules, arith}
use Rattle.std.proofs.lemmas.List.Sorted.{IsPartitionPoint-from_clause, IsPartitionedBy-leb}
use Rattle.source_places.proofs.StartLemmas.{point_begun}
use Rattle.source_places.proofs.starts.begun.Goals as goal

pub returns-clause-begun : goal.returns-clause-begun
returns-clause-begun c =
    let parted = IsPartitionedBy-leb (λ s. s) _ c.args.offset c.requires in
    let point = IsPartitionPoint-from_clause (λ s. leb s c.args.offset) _ _ c.partition_point.ensures.partitioned parted (λ a r q k. search rules) in
    point_begun c.args.list.now c.args.offset _ c.partition_point.ensures.bound (λ k d lt. point.0 k d (omega arith) lt) (λ k d low high. point.1 k d low high)
