-- What an observer has seen before the first call, while lanes are fed, and in the end.
use Rattle.std.proofs.Common.{◌≡◌, true, refl}
use Rattle.rx_end.specs.declared.stage.Stage.{Stage}
use Rattle.rx_end.specs.declared.stage.Stage.TheVariants as stages
use Rattle.rx_end.specs.Stages.{is_closed, is_over}
use Rattle.rx_end.proofs.Observed.{saw_all, seen_fed, seen_fresh}
use Rattle.rx_end.proofs.laws.observers_see_all.Goals as goal

-- where the end was reported, nothing more comes
over_closed : (stage : Stage) → is_over stage ≡ true → is_closed stage ≡ true
over_closed stages.Running e = absurd (cc e)
over_closed stages.Closed e = absurd (cc e)
over_closed stages.Ended e = refl

pub returns : goal.returns
returns g c = record {
  first = seen_fresh g.O.Observer.keeps g.O.Observer.saw;
  fed = seen_fed g.O.Observer.keeps g.O.Observer.saw;
  closed = saw_all g.O.Observer.keeps g.O.Observer.saw;
  ended = λ o v w s setting fed given lanes st next seen begin. saw_all g.O.Observer.keeps g.O.Observer.saw o w s fed lanes seen (over_closed w.stage (next.gives s setting fed given st).1) begin;
}
