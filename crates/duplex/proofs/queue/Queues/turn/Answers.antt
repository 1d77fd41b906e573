use Rattle.duplex.proofs.queue.Queues.turn.Goals as goal

pub drain-self-requires-clause-tells : goal.drain-self-requires-clause-tells
drain-self-requires-clause-tells c = (c.requires.tells.0, c.take.ensures.tells c.requires.tells.0 c.requires.tells.1)

pub returns-then-drains-clause-tells : goal.returns-then-drains-clause-tells
returns-then-drains-clause-tells c a t = c.drain-self.ensures.tells a (c.take.ensures.tells a t)
