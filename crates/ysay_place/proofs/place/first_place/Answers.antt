use Rattle.std.proofs.Common.{rules, ltb}
use Rattle.std.proofs.lemmas.List.Sorted.{IsPartitionPoint-from_clause, IsPartitionedBy-ltb}
use Rattle.ysay_place.proofs.OrderedLemmas.{number, ascends_by_index, partition_is}
use Rattle.ysay_place.proofs.place.first_place.Goals as goal

pub returns-clause-place : goal.returns-clause-place
returns-clause-place c =
    let row = c.args.row.now in
    let id = c.args.id in
    let parted = IsPartitionedBy-ltb number row id.0 (ascends_by_index row c.requires) in
    let point = IsPartitionPoint-from_clause (λ y. ltb (number y) id.0) row c.partition_point.result c.partition_point.ensures.partitioned parted (λ a r q k. search rules) in
    partition_is (λ y. ltb (number y) id.0) row c.partition_point.result c.partition_point.ensures.bound point
