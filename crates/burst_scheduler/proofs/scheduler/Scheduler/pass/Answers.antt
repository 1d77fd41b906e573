use Rattle.std.proofs.Common.{refl}
use Rattle.burst_scheduler.proofs.scheduler.Scheduler.pass.Goals as goal

pub returns-clause-rest : goal.returns-clause-rest
returns-clause-rest c = record {
  settings = (refl, refl, refl, refl);
  channels = (refl, refl);
  incoming = refl;
  line = (refl, refl, refl);
  words = c.pass.ensures.rest;
  rest = (refl, refl, refl);
}
