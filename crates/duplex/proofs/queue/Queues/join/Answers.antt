use Rattle.std.proofs.Common.{◌≡◌, ◌+◌, ◌<◌, ◌≤◌, length, ◌∙◌, sym, ap, subst, arith}
use Rattle.std.proofs.Math.ListN.{set}
use Rattle.std.proofs.lemmas.List.{get_or_default, length-set}
use Rattle.duplex.specs.Queues.{empty_queue, queue_at, AreFilled}
use Rattle.duplex.specs.declared.queue.ArrivalQueue.{ArrivalQueue}
use Rattle.duplex.proofs.Filled.{room_for, filled_still, filled_more}
use Rattle.duplex.proofs.queue.Queues.join.Goals as goal

pub index_mut-requires : goal.index_mut-requires
index_mut-requires c =
    let own = c.args.self.now in
    let q = c.requires.queues in
    let wide = q.wide in
    let room = q.room in
    let fits = c.ranges.channel.fits in
    let within : c.args.channel < length own.by_channel.items = omega (arith, wide, fits) in
    let is = c.index-queue.ensures ∙ get_or_default own.by_channel.items c.args.channel c.index-queue.result.now empty_queue within in
    let empty : (queue_at own.by_channel.items c.args.channel).words ≡ 0 = sym (ap (λ (q : ArrivalQueue). q.words) is) ∙ c.if-queue-eq0.true in
    let free = room_for own.by_channel.items own.filled.items own.count c.args.channel q.filled (room ∙ sym wide) within empty in
    let long = own.filled.ok.0 in
    omega (arith, free, long)

pub returns-then-queue-eq0-clause-queues : goal.returns-then-queue-eq0-clause-queues
returns-then-queue-eq0-clause-queues c =
    let own = c.args.self.now in
    let q = c.requires.queues in
    let wide = q.wide in
    let room = q.room in
    let fits = c.ranges.channel.fits in
    let queue : ArrivalQueue = record { words = c.index-queue.result.now.words + 1; peak = c.max-peak.result } in
    let within : c.args.channel < length own.by_channel.items = omega (arith, wide, fits) in
    let is = c.index-queue.ensures ∙ get_or_default own.by_channel.items c.args.channel c.index-queue.result.now empty_queue within in
    let empty : (queue_at own.by_channel.items c.args.channel).words ≡ 0 = sym (ap (λ (q : ArrivalQueue). q.words) is) ∙ c.if-queue-eq0.true in
    let free = room_for own.by_channel.items own.filled.items own.count c.args.channel q.filled (room ∙ sym wide) within empty in
    record {
      wide = ap length c.put.ensures.queues ∙ length-set own.by_channel.items c.args.channel queue ∙ wide;
      room = length-set own.filled.items own.count c.args.channel ∙ room;
      filled = subst (λ qs. AreFilled qs (set own.filled.items own.count c.args.channel) (own.count + 1)) (sym c.put.ensures.queues)
          (filled_more own.by_channel.items own.filled.items own.count c.args.channel queue q.filled within (omega arith) empty free);
    }

pub returns-else-queue-eq0-clause-queues : goal.returns-else-queue-eq0-clause-queues
returns-else-queue-eq0-clause-queues c =
    let own = c.args.self.now in
    let q = c.requires.queues in
    let wide = q.wide in
    let fits = c.ranges.channel.fits in
    let queue : ArrivalQueue = record { words = c.index-queue.result.now.words + 1; peak = c.max-peak.result } in
    let within : c.args.channel < length own.by_channel.items = omega (arith, wide, fits) in
    let is = c.index-queue.ensures ∙ get_or_default own.by_channel.items c.args.channel c.index-queue.result.now empty_queue within in
    let some : 1 ≤ c.index-queue.result.now.words = (let ne = c.if-queue-eq0.false in omega (arith, ne)) in
    record {
      wide = ap length c.put.ensures.queues ∙ length-set own.by_channel.items c.args.channel queue ∙ wide;
      room = q.room;
      filled = subst (λ qs. AreFilled qs own.filled.items own.count) (sym c.put.ensures.queues)
          (filled_still own.by_channel.items own.filled.items own.count c.args.channel queue q.filled within (omega arith) (subst (λ (q : ArrivalQueue). 1 ≤ q.words) is some));
    }
