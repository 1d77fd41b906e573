use Rattle.std.proofs.Common.{◌≡◌, Bool, true, false, [], refl}
use Rattle.burst_scheduler.specs.Ring.{ring_list}
use Rattle.burst_scheduler.proofs.Readiness.{ready_now}
use Rattle.burst_scheduler.proofs.scheduler.Scheduler.ready.Goals as goal

pub returns-clause-ready : goal.returns-clause-ready
returns-clause-ready c a g begun = ready_now c.args.self.now a g begun

pub returns-clause-none : goal.returns-clause-none
returns-clause-none c a has before = by c.args.self.now.started refl
  where
    by : (b : Bool) → c.args.self.now.started ≡ b → ring_list c.args.self.now.ready ≡ []
    by true e = absurd (before (has.waiting e))
    by false e = (has.holds.unstarted e).2
