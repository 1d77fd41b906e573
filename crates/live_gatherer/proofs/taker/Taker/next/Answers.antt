-- What the clock has shown, and then the clock moves on.
use Rattle.std.proofs.Common.{refl}
use Rattle.std.proofs.Math.Logic.{∥∥₁_map}
use Rattle.live_gatherer.proofs.Takings.{all_given, clock_moved}
use Rattle.live_gatherer.proofs.taker.Taker.next.Goals as goal

pub shown-requires : goal.shown-requires
shown-requires c = ∥∥₁_map c.requires (λ r. (r.0, r.1, r.2, c.rounds.invariant r.0 r.1 r.2 r.3))

pub returns-then-not-go_on-clause-gives : goal.returns-then-not-go_on-clause-gives
returns-then-not-go_on-clause-gives c = λ s fed given at.
    all_given c.shown.new.self _ s fed given c.if-not-go_on.ensures.same refl refl c.if-not-go_on.ensures.stuck (c.in-None.ensures.gives s fed given (c.rounds.invariant s fed given at))

pub rounds-preserved : goal.rounds-preserved
rounds-preserved c = λ s fed given at.
    clock_moved c.shown.new.self _ s fed given refl refl (λ items t st. c.if-not-go_on.ensures.moves s fed items t st) (c.in-None.ensures.gives s fed given (c.rounds.invariant s fed given at))
