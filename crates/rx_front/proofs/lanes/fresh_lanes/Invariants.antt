-- The lanes so far are there.
use Rattle.std.proofs.Common.{◌≡◌, length, All}
use Rattle.rx_front.specs.Lanes.{AreWide, IsFresh}
use Rattle.rx_front.proofs.lanes.fresh_lanes.Given as goal

abbrev pub invariant-loop-lane : goal.invariant-loop-lane
invariant-loop-lane l = record { count : length l.lanes.items ≡ l._lane; each : All (λ v. IsFresh l.link v) l.lanes.items; wide : AreWide 8 l.lanes.items }
