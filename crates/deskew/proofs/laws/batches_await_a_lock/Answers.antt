-- The law that stands in a file of lemmas.
use Rattle.deskew.proofs.Awaiting.{batch_awaits}
use Rattle.deskew.proofs.laws.batches_await_a_lock.Goals as goal

pub returns : goal.returns
returns c = batch_awaits
