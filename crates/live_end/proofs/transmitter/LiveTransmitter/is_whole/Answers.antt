-- A stream that is over is whole, or has the most words.
use Rattle.std.proofs.Common.{sym, subst, arith}
use Rattle.live_end.specs.States.{State}
use Rattle.live_end.specs.Sending.{Sends}
use Rattle.live_end.proofs.Going.{whole_if}
use Rattle.live_end.proofs.transmitter.LiveTransmitter.is_whole.Goals as goal

pub returns-then-slot-lt-MOST_WORDS-clause-whole : goal.returns-then-slot-lt-MOST_WORDS-clause-whole
returns-then-slot-lt-MOST_WORDS-clause-whole c x h few =
    let k = subst (λ (t : State). Sends t x) (sym c.self.view_is) h in
    whole_if x.given x.words c.is_over.result (c.is_over.ensures x.given x.words k.gives) few

pub returns-then-slot-lt-MOST_WORDS-clause-few : goal.returns-then-slot-lt-MOST_WORDS-clause-few
returns-then-slot-lt-MOST_WORDS-clause-few c x h t =
    let k = subst (λ (t : State). Sends t x) (sym c.self.view_is) h in
    let at = c.slot.ensures x.given x.words k.gives in
    let low = c.if-slot-lt-MOST_WORDS.true in
    (whole_if x.given x.words c.is_over.result (c.is_over.ensures x.given x.words k.gives) (omega (arith, at, low))).0 t

pub returns-else-slot-lt-MOST_WORDS-clause-whole : goal.returns-else-slot-lt-MOST_WORDS-clause-whole
returns-else-slot-lt-MOST_WORDS-clause-whole c x h few =
    let k = subst (λ (t : State). Sends t x) (sym c.self.view_is) h in
    let at = c.slot.ensures x.given x.words k.gives in
    let high = c.if-slot-lt-MOST_WORDS.false in
    absurd (omega (arith, at, high, few))
