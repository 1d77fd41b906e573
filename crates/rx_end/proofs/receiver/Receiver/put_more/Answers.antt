-- Nothing more comes, or none is left.
use Rattle.std.proofs.Common.{refl, sym, ap, ◌∙◌, subst}
use Rattle.std.proofs.lemmas.Bool.{OnFalse_at, OnFalse_from, OnTrue_at, OnTrue_from}
use Rattle.epoch_model.proofs.Leasts.{clash}
use Rattle.rx_end.specs.Stages.{is_closed}
use Rattle.rx_end.specs.States.{State}
use Rattle.rx_end.specs.Standing.{Stands}
use Rattle.rx_end.specs.Observing.{Tells}
use Rattle.rx_end.proofs.Putting.{drained_at_end, front_stands}
use Rattle.rx_end.proofs.Observed.{nothing_told, same_front, some_on, state_of, told_on}
use Rattle.rx_end.proofs.receiver.Receiver.put_more.Goals as goal

pub returns-then-is_closed-clause-all : goal.returns-then-is_closed-clause-all
returns-then-is_closed-clause-all g c = λ s setting fed given st.
    drained_at_end c.args.self.now s setting fed given (ap (λ (v : State). is_closed v.stage) (sym c.self.view_is) ∙ sym c.is_closed.ensures ∙ c.if-is_closed.true) c.requires.waits st

pub returns-then-is_empty-clause-stands : goal.returns-then-is_empty-clause-stands
returns-then-is_empty-clause-stands g c =
    OnTrue_from c.put_next.result _ (λ e s setting fed given st. OnTrue_at e c.put_next.ensures.stands s setting fed given
    (front_stands _ c.fill.new.self s setting fed fed given (sym c.is_closed.ensures ∙ c.if-is_closed.false) (λ items t here. (t, c.fill.ensures.stands s fed items t here))
    (subst (λ (v : State). Stands v s setting fed given) (sym c.self.view_is) st)))

pub returns-then-is_empty-clause-all : goal.returns-then-is_empty-clause-all
returns-then-is_empty-clause-all g c =
    OnFalse_from c.put_next.result _ (λ e s setting fed given st. OnFalse_at e c.put_next.ensures.all s setting fed given
    (front_stands _ c.fill.new.self s setting fed fed given (sym c.is_closed.ensures ∙ c.if-is_closed.false) (λ items t here. (t, c.fill.ensures.stands s fed items t here))
    (subst (λ (v : State). Stands v s setting fed given) (sym c.self.view_is) st)))

pub returns-else-is_empty-clause-stands : goal.returns-else-is_empty-clause-stands
returns-else-is_empty-clause-stands g c = λ s setting fed given st. c.put_words.ensures.stands s setting fed given
    (front_stands _ c.fill.new.self s setting fed fed given (sym c.is_closed.ensures ∙ c.if-is_closed.false) (λ items t here. (t, c.fill.ensures.stands s fed items t here))
    (subst (λ (v : State). Stands v s setting fed given) (sym c.self.view_is) st))

-- the observer is told nothing of words that are made ready
pub put_next-requires-clause-told : goal.put_next-requires-clause-told
put_next-requires-clause-told g c = some_on g.O.Observer.keeps g.O.Observer.saw g.O.Observer.asks c.args.observer.now c.args.observer.now c.args.self.now (state_of c.fill.new.self c.self.inside.reassembly c.self.inside.stage)
    (subst (λ (v : State). Tells g.O.Observer.keeps g.O.Observer.saw c.args.observer.now c.args.observer.now v (state_of c.fill.new.self c.self.inside.reassembly c.self.inside.stage)) c.self.view_is
    (nothing_told g.O.Observer.keeps g.O.Observer.saw c.args.observer.now (state_of c.self.inside.front c.self.inside.reassembly c.self.inside.stage) (state_of c.fill.new.self c.self.inside.reassembly c.self.inside.stage) (λ s fed items t here. c.fill.ensures.stands s fed items t here) (λ closed end. absurd (clash closed (sym c.is_closed.ensures ∙ c.if-is_closed.false))))) c.requires.told

pub put_words-requires-clause-told : goal.put_words-requires-clause-told
put_words-requires-clause-told g c = some_on g.O.Observer.keeps g.O.Observer.saw g.O.Observer.asks c.args.observer.now c.args.observer.now c.args.self.now (state_of c.fill.new.self c.self.inside.reassembly c.self.inside.stage)
    (subst (λ (v : State). Tells g.O.Observer.keeps g.O.Observer.saw c.args.observer.now c.args.observer.now v (state_of c.fill.new.self c.self.inside.reassembly c.self.inside.stage)) c.self.view_is
    (nothing_told g.O.Observer.keeps g.O.Observer.saw c.args.observer.now (state_of c.self.inside.front c.self.inside.reassembly c.self.inside.stage) (state_of c.fill.new.self c.self.inside.reassembly c.self.inside.stage) (λ s fed items t here. c.fill.ensures.stands s fed items t here) (λ closed end. absurd (clash closed (sym c.is_closed.ensures ∙ c.if-is_closed.false))))) c.requires.told

pub returns-then-is_closed-clause-tells : goal.returns-then-is_closed-clause-tells
returns-then-is_closed-clause-tells g c = same_front g.O.Observer.keeps g.O.Observer.saw c.args.observer.now c.args.self.now c.args.self.now refl refl

pub returns-then-is_empty-clause-tells : goal.returns-then-is_empty-clause-tells
returns-then-is_empty-clause-tells g c = told_on g.O.Observer.keeps g.O.Observer.saw c.args.observer.now c.args.observer.now c.put_next.new.observer c.args.self.now (state_of c.fill.new.self c.self.inside.reassembly c.self.inside.stage) c.put_next.new.self
    (subst (λ (v : State). Tells g.O.Observer.keeps g.O.Observer.saw c.args.observer.now c.args.observer.now v (state_of c.fill.new.self c.self.inside.reassembly c.self.inside.stage)) c.self.view_is
    (nothing_told g.O.Observer.keeps g.O.Observer.saw c.args.observer.now (state_of c.self.inside.front c.self.inside.reassembly c.self.inside.stage) (state_of c.fill.new.self c.self.inside.reassembly c.self.inside.stage) (λ s fed items t here. c.fill.ensures.stands s fed items t here) (λ closed end. absurd (clash closed (sym c.is_closed.ensures ∙ c.if-is_closed.false))))) c.put_next.ensures.tells

pub returns-else-is_empty-clause-tells : goal.returns-else-is_empty-clause-tells
returns-else-is_empty-clause-tells g c = told_on g.O.Observer.keeps g.O.Observer.saw c.args.observer.now c.args.observer.now c.put_words.new.observer c.args.self.now (state_of c.fill.new.self c.self.inside.reassembly c.self.inside.stage) c.put_words.new.self
    (subst (λ (v : State). Tells g.O.Observer.keeps g.O.Observer.saw c.args.observer.now c.args.observer.now v (state_of c.fill.new.self c.self.inside.reassembly c.self.inside.stage)) c.self.view_is
    (nothing_told g.O.Observer.keeps g.O.Observer.saw c.args.observer.now (state_of c.self.inside.front c.self.inside.reassembly c.self.inside.stage) (state_of c.fill.new.self c.self.inside.reassembly c.self.inside.stage) (λ s fed items t here. c.fill.ensures.stands s fed items t here) (λ closed end. absurd (clash closed (sym c.is_closed.ensures ∙ c.if-is_closed.false))))) c.put_words.ensures.tells
