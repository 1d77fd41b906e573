-- The steps are those that its bits complete.
use Rattle.std.proofs.Common.{sym, subst, List}
use Rattle.lk_base.specs.Checksum.{bits_of}
use Rattle.lock_model.specs.declared.types.LaneStep.{LaneStep}
use Rattle.lane_lock.specs.Bytes.{Brings}
use Rattle.rx_front.specs.Shows.{steps_shown}
use Rattle.rx_front.specs.Steps.{StepsState}
use Rattle.rx_front.proofs.Shows.{count}
use Rattle.rx_front.proofs.steps.LaneSteps.byte.Goals as goal

pub returns-clause-count : goal.returns-clause-count
returns-clause-count c = count 8 c.shown_of-self-inside.result c.shown_of-self-inside.ensures.within

pub returns-clause-stands : goal.returns-clause-stands
returns-clause-stands c =
    subst (λ (v : StepsState). Brings v.lock c.byte.new.self (bits_of 8 c.args.byte) (steps_shown 8 c.shown_of-self-inside.result)) c.self.view_is
    (subst (λ (g : List LaneStep). Brings c.self.inside.lock c.byte.new.self (bits_of 8 c.args.byte) g) (sym c.shown_of-self-inside.ensures.value) c.byte.ensures.stands)
