-- A front from within.
use Rattle.rx_front.specs.declared.front.Front.TheInside.{Inside}
use Rattle.rx_front.specs.States.{State}

abbrev pub seen : Inside → State
seen x = record { lanes = x.lanes.items; left = x.left; deskew = x.deskew; waiting = x.block; over = x.over }
