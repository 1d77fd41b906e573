-- What is asked of a step is what each kind of word wants.
use Rattle.live_end.proofs.transmitter.LiveTransmitter.step.Goals as goal

pub put_row-requires-clause-few : goal.put_row-requires-clause-few
put_row-requires-clause-few c x k = (c.requires.goes.2 x k).0

pub frame-requires-clause-goes : goal.frame-requires-clause-goes
frame-requires-clause-goes c x k = (c.requires.goes.2 x k).1
