use Rattle.std.proofs.Common.{◌∙◌, All, refl, sym, subst, arith}
use Rattle.std.specs.List.Sorted.{IsNonDecreasing}
use Rattle.std.proofs.lemmas.List.Sorted.{IsNonDecreasingBy-from_sort}
use Rattle.std.proofs.lemmas.List.{take_all}
use Rattle.std.proofs.lemmas.List.Elements.{All-push}
use Rattle.live_stream.proofs.EmptyQueues.{one_more}
use Rattle.live_stream.specs.Waiting.{IsEmpty}
use Rattle.live_stream.proofs.waiting.empty_queues.Goals as goal

pub loop-i-preserved : goal.loop-i-preserved
loop-i-preserved c =
    let i = c.loop-i.invariant in
    let many = c.sort_unstable.new.self.ok.0 in
    record {
      channels = one_more c.loop-i.queues.items c.push.new.self.items _ c.sort_unstable.new.self.items c.loop-i.i _ c.in_ok-push.ensures.items i.channels (omega (arith, c.loop-i-test.true, c.loop-i.auto.i-end, many)) c.index.ensures;
      empty = subst (All IsEmpty) (sym c.in_ok-push.ensures.items) (All-push IsEmpty c.loop-i.queues.items _ i.empty (record { packets = c.new.ensures.items; taken = refl; given = (refl, refl); sent = (refl, refl) }));
    }

pub returns-clause-rising : goal.returns-clause-rising
returns-clause-rising c =
    let i = c.loop-i.invariant in
    let many = c.sort_unstable.new.self.ok.0 in
    let all = take_all c.loop-i.i c.sort_unstable.new.self.items (omega (arith, c.loop-i-test.false, c.loop-i.auto.i-end, many)) in
    subst IsNonDecreasing (sym (i.channels ∙ all)) (IsNonDecreasingBy-from_sort (λ n. n) _ c.sort_unstable.ensures.sorted)
