use Rattle.std.proofs.Common.{◌<◌, ◌∙◌, nat_lt, length, refl, ap, arith}
use Rattle.std.proofs.lemmas.List.{get_or_default}
use Rattle.calendar.proofs.Told.{beq_same}
use Rattle.duplex.specs.Queues.{empty_queue}
use Rattle.duplex.specs.declared.queue.ArrivalQueue.{ArrivalQueue}
use Rattle.duplex.proofs.Told.{tells_row, tells_still}
use Rattle.duplex.proofs.queue.put.Goals as goal

pub returns-then-now-before-clause-tells : goal.returns-then-now-before-clause-tells
returns-then-now-before-clause-tells c a t =
    let within : c.args.channel < length c.args.queues.now.items = (let wide = c.requires.wide in let fits = c.ranges.channel.fits in omega (arith, wide, fits)) in
    tells_row c.args.scheduler.now a c.args.mark c.args.queues.now.items c.args.channel c.args.queue within t c.local.new.self (nat_lt c.args.queue.words c.args.mark) refl c.local.ensures.words

pub returns-else-now-before-clause-tells : goal.returns-else-now-before-clause-tells
returns-else-now-before-clause-tells c a t =
    let within : c.args.channel < length c.args.queues.now.items = (let wide = c.requires.wide in let fits = c.ranges.channel.fits in omega (arith, wide, fits)) in
    tells_still c.args.scheduler.now a c.args.mark c.args.queues.now.items c.args.channel c.args.queue within t
    (beq_same (nat_lt c.args.queue.words c.args.mark) (nat_lt c.index.result.now.words c.args.mark) c.if-now-before.false ∙ ap (λ (q : ArrivalQueue). nat_lt q.words c.args.mark) (c.index.ensures ∙ get_or_default c.args.queues.now.items c.args.channel c.index.result.now empty_queue within))
