-- What an observer is told before the first call, and while lanes are fed.
use Rattle.rx_front.specs.Calls.{nothing_fed}
use Rattle.rx_end.proofs.Observed.{told_fed, told_fresh}
use Rattle.rx_end.proofs.laws.observers_are_told.Goals as goal

pub returns : goal.returns
returns g c = record {
  premise = λ o v s fresh kept. (s, nothing_fed s.lanes, told_fresh g.O.Observer.keeps g.O.Observer.saw o v s fresh kept);
  first = told_fresh g.O.Observer.keeps g.O.Observer.saw;
  fed = told_fed g.O.Observer.keeps g.O.Observer.saw;
}
