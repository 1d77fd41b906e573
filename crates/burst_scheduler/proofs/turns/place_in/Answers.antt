use Rattle.std.proofs.Common.{ℕ, ltb, ltb-true, ltb-false, arith, rules}
use Rattle.std.proofs.lemmas.List.Sorted.{IsPartitionPoint-from_clause, IsPartitionedBy-ltb}
use Rattle.burst_scheduler.proofs.Filling.{found_first}
use Rattle.burst_scheduler.proofs.turns.place_in.Goals as goal

pub returns-then-at-order : goal.returns-then-at-order
returns-then-at-order c = λ channels o h.
    let point = IsPartitionPoint-from_clause (λ (p : ℕ × ℕ). ltb p.0 c.args.channel) _ _ c.partition_point-at.ensures.partitioned (IsPartitionedBy-ltb (λ (p : ℕ × ℕ). p.0) _ c.args.channel o.rising) (λ a r q k. search rules) in
    let found = found_first channels c.args.order.now o c.args.channel c.partition_point-at.result h
    (λ k l i. ltb-true _ _ (point.0 k (0, 0) (omega arith) l))
    (λ l. ltb-false _ _ (point.1 c.partition_point-at.result (0, 0) (omega arith) l)) in
    (found.1, found.2)

pub returns-else-at-order : goal.returns-else-at-order
returns-else-at-order c = λ channels o h.
    let point = IsPartitionPoint-from_clause (λ (p : ℕ × ℕ). ltb p.0 c.args.channel) _ _ c.partition_point-at.ensures.partitioned (IsPartitionedBy-ltb (λ (p : ℕ × ℕ). p.0) _ c.args.channel o.rising) (λ a r q k. search rules) in
    let low = (found_first channels c.args.order.now o c.args.channel c.partition_point-at.result h
    (λ k l i. ltb-true _ _ (point.0 k (0, 0) (omega arith) l))
    (λ l. ltb-false _ _ (point.1 c.partition_point-at.result (0, 0) (omega arith) l))).0 in
    absurd (omega (arith, low, c.if-at-order.false))
