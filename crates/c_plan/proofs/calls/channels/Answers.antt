-- The channels are written.
use Rattle.std.proofs.Common.{inl, refl}
use Rattle.c_plan.proofs.calls.channels.Goals as goal

pub returns-in-Ok : goal.returns-in-Ok
returns-in-Ok c = let e = c.in-Ok.ensures {u = tt} in inl (e.0, e.1, e.2, refl, c.no_refusal.ensures)
