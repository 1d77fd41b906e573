-- The Syncs of the group that a front gave last.
use Rattle.std.specs.Prelude.{ℕ, List, map}
use Rattle.rx_front.specs.States.{State}

-- the bit positions of the lanes' Syncs in it
abbrev pub starts_of : State → List ℕ
starts_of f = map (λ l. l.start) f.deskew.lanes
