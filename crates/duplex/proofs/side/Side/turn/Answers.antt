use Rattle.std.proofs.Common.{length, ap, refl, arith}
use Rattle.duplex.proofs.Slots.{low_queues, tells_taken, side_turned}
use Rattle.duplex.proofs.side.Side.turn.Goals as goal

pub turn-requires-clause-queues : goal.turn-requires-clause-queues
turn-requires-clause-queues c =
    let (settings, ends, packets, own, sent, keeps, long, side, listed, marks, small) = c.requires in
    let taken = c.take-joined.ensures settings ends packets own sent keeps long side in
    taken.queues.are

pub turn-requires-clause-low : goal.turn-requires-clause-low
turn-requires-clause-low c channel below =
    let (settings, ends, packets, own, sent, keeps, long, side, listed, marks, small) = c.requires in
    let taken = c.take-joined.ensures settings ends packets own sent keeps long side in
    low_queues settings sent (length sent) channel _ small (taken.queues.all channel below)

pub turn-requires-clause-tells : goal.turn-requires-clause-tells
turn-requires-clause-tells c =
    let (settings, ends, packets, own, sent, keeps, long, side, listed, marks, small) = c.requires in
    let taken = c.take-joined.ensures settings ends packets own sent keeps long side in
    (taken.hears.asks.asked, tells_taken c.take-joined.new.self settings ends packets own sent c.take-joined.result c.args.mark keeps taken listed marks)

pub step_open-requires : goal.step_open-requires
step_open-requires c =
    let (settings, ends, packets, own, sent, keeps, long, side, listed, marks, small) = c.requires in
    let taken = c.take-joined.ensures settings ends packets own sent keeps long side in
    let asks = taken.hears.asks in
    let at = ap length asks.words in
    let tells = c.turn.ensures.tells asks.asked (tells_taken c.take-joined.new.self settings ends packets own sent c.take-joined.result c.args.mark keeps taken listed marks) in
    record { words = (_, tells.words, asks.still, omega (arith, at, long, small)) }

pub returns : goal.returns
returns c settings ends packets own sent keeps long side listed marks drain =
    let taken = c.take-joined.ensures settings ends packets own sent keeps long side in
    side_turned c.take-joined.new.self _ settings ends packets own sent c.take-joined.result c.args.drains c.args.mark c.turn.new.scheduler c.step_open.result keeps long taken listed marks drain c.turn.ensures.queues c.turn.ensures.turned c.turn.ensures.tells c.step_open.ensures.words refl refl refl
