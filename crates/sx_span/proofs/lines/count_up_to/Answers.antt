use Rattle.std.proofs.Common.{leb, rules}
use Rattle.std.proofs.lemmas.List.Sorted.{IsPartitionPoint-from_clause, IsPartitionedBy-leb}
use Rattle.sx_span.proofs.lines.count_up_to.Goals as goal

pub returns-clause-point : goal.returns-clause-point
returns-clause-point c =
    let parted = IsPartitionedBy-leb (λ p. p) c.args.places.now c.args.at c.requires in
    IsPartitionPoint-from_clause (λ p. leb p c.args.at) _ _ c.partition_point.ensures.partitioned parted (λ a r q k. search rules)
