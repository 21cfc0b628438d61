use Rattle.std.proofs.Common.{rules, ltb}
use Rattle.std.proofs.lemmas.List.Sorted.{IsPartitionPoint-from_clause, IsPartitionedBy-ltb}
use Rattle.ystore_rows.specs.Children.{nodes_of}
use Rattle.ystore_rows.proofs.RowLemmas.{ascends_by_index, number, partition_is}
use Rattle.ystore_rows.proofs.children.Children.first_place.Goals as goal

pub returns-clause-place : goal.returns-clause-place
returns-clause-place c =
    let row = nodes_of c.args.self.now in
    let s = c.args.schema in
    let parted = IsPartitionedBy-ltb number row s.0 (ascends_by_index row c.args.self.now.ascending) in
    let point = IsPartitionPoint-from_clause (λ y. ltb y.0.0 s.0) _ _ c.partition_point.ensures.partitioned parted (λ a r q k. search rules) in
    partition_is (λ y. ltb y.0.0 s.0) row c.partition_point.result c.partition_point.ensures.bound point
