-- One call of `next`.
use Rattle.rx_end.proofs.receiver.Receiver.next_observed.Goals as goal

pub returns-clause-next : goal.returns-clause-next
returns-clause-next g c = record { gives = c.give.ensures.gives; none = c.give.ensures.none; over = c.give.ensures.over; once = c.give.ensures.once; lends = c.give.ensures.lends }
