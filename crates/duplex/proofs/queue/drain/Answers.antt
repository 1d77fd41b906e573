use Rattle.std.proofs.Common.{◌≡◌, ℕ, ◌+◌, ◌<◌, ◌≤◌, List, nat_lt, true, length, ◌∙◌, sym, ap, subst, arith}
use Rattle.std.proofs.Math.ListN.{set}
use Rattle.std.proofs.lemmas.List.Filters.{FiltersInPlace, FiltersInPlace-more_set, FiltersInPlace-more_no}
use Rattle.duplex.specs.Queues.{queue_at, drained_by}
use Rattle.duplex.specs.declared.queue.ArrivalQueue.{ArrivalQueue}
use Rattle.duplex.proofs.Filled.{HasDrained, keeps_one, next_channel, next_is, next_some, drained_one, all_drained, filled_after}
use Rattle.duplex.proofs.queue.drain.Goals as goal
use Rattle.duplex.proofs.queue.drain.Goals.{then-lose, else-lose}

pub lose-requires-clause-some : goal.lose-requires-clause-some
lose-requires-clause-some c =
    let f = c.requires.filled in
    let wide = f.within in
    let below = c.loop-i-test.true in
    let at = next_channel c.args.filled.now.items c.loop-i.filled.items c.loop-i.kept c.loop-i.i c.index-channel.result.now (keeps_one c.args.queues.now.items) c.loop-i.invariant.line (omega (arith, wide, below)) c.index-channel.ensures in
    subst (λ (k : ℕ). 1 ≤ (queue_at c.loop-i.queues.items k).words) (sym at) (next_some c.args.queues.now.items c.loop-i.queues.items c.args.filled.now.items c.args.count c.loop-i.i f below c.loop-i.invariant.drained)

pub lose-requires-clause-tells : goal.lose-requires-clause-tells
lose-requires-clause-tells c = (c.requires.tells.0, c.loop-i.invariant.tells c.requires.tells.0 c.requires.tells.1)

pub loop-i-preserved : goal.loop-i-preserved
loop-i-preserved c =
    let old : List ArrivalQueue = c.args.queues.now.items in
    let filled : List ℕ = c.args.filled.now.items in
    let here : List ArrivalQueue = c.loop-i.queues.items in
    let channel : ℕ = c.index-channel.result.now in
    let i : ℕ = c.loop-i.i in
    let f = c.requires.filled in
    let wide = f.within in
    let below : i < c.args.count = c.loop-i-test.true in
    let line = c.loop-i.invariant.line in
    let long = line.long in
    let inside : i < length c.loop-i.filled.items = omega (arith, wide, below, long) in
    let at = next_channel filled c.loop-i.filled.items c.loop-i.kept i channel (keeps_one old) line (omega (arith, wide, below)) c.index-channel.ensures in
    let same : queue_at here channel ≡ queue_at old channel = subst (λ (k : ℕ). queue_at here k ≡ queue_at old k) (sym at) (next_is old here filled c.args.count i f below c.loop-i.invariant.drained) in
    let keeps : c.lose.result ≡ keeps_one old channel = c.lose.ensures.some ∙ ap (λ (q : ArrivalQueue). nat_lt 1 q.words) same in
    record {
      line = elim c.if-lose.branch [
        | then-lose w ↦ rw (w.filled-is, w.kept-is) (FiltersInPlace-more_set line inside (sym keeps ∙ w.if-lose.true) c.index-channel.ensures)
        | else-lose w ↦ rw (w.filled-is, w.kept-is) (FiltersInPlace-more_no line inside (sym keeps ∙ w.if-lose.false) c.index-channel.ensures)
      ];
      drained = subst (λ (qs : List ArrivalQueue). HasDrained old qs filled (i + 1)) (sym (c.lose.ensures.queues ∙ ap (λ (k : ℕ). set here k (drained_by true (queue_at here k))) at))
          (drained_one old here filled c.args.count i f below c.loop-i.invariant.drained);
      tells = λ a t. c.lose.ensures.tells a (c.loop-i.invariant.tells a t);
    }

pub returns-clause-queues : goal.returns-clause-queues
returns-clause-queues c =
    let over = c.loop-i-test.false in
    let most = c.loop-i.auto.i-end in
    let all : c.loop-i.i ≡ c.args.count = omega (arith, over, most) in
    all_drained c.args.queues.now.items c.loop-i.queues.items c.args.filled.now.items c.args.count c.requires.filled
    (subst (λ (n : ℕ). HasDrained c.args.queues.now.items c.loop-i.queues.items c.args.filled.now.items n) all c.loop-i.invariant.drained)

pub returns-clause-filled : goal.returns-clause-filled
returns-clause-filled c =
    let over = c.loop-i-test.false in
    let most = c.loop-i.auto.i-end in
    let all : c.loop-i.i ≡ c.args.count = omega (arith, over, most) in
    filled_after c.args.queues.now.items c.loop-i.queues.items c.args.filled.now.items c.args.count c.requires.filled
    (subst (λ (n : ℕ). HasDrained c.args.queues.now.items c.loop-i.queues.items c.args.filled.now.items n) all c.loop-i.invariant.drained)
    c.loop-i.filled.items c.loop-i.kept
    (subst (λ (n : ℕ). FiltersInPlace (keeps_one c.args.queues.now.items) c.args.filled.now.items c.loop-i.filled.items c.loop-i.kept n) all c.loop-i.invariant.line)
