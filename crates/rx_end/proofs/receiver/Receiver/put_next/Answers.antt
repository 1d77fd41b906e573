-- The front's next item is put, or none is left.
use Rattle.std.proofs.Common.{◌≡◌, sym, subst, true, false}
use Rattle.reassembly.specs.States.{NothingWaits}
use Rattle.epoch_model.proofs.Leasts.{clash}
use Rattle.rx_end.specs.Stages.{is_closed}
use Rattle.rx_end.specs.States.{State}
use Rattle.rx_end.specs.Standing.{Stands}
use Rattle.rx_end.specs.Observing.{HasToldSome, Tells}
use Rattle.rx_end.proofs.Putting.{drained, item_put}
use Rattle.rx_end.proofs.Observed.{item_asked, item_told, nothing_told, state_of}
use Rattle.rx_end.proofs.receiver.Receiver.put_next.Goals as goal

pub returns-in-Some-clause-stands : goal.returns-in-Some-clause-stands
returns-in-Some-clause-stands g c = λ s setting fed given st.
    item_put _ c.item.new.self c.put.new.self c.in-Some.item s setting fed given (subst (λ (v : State). is_closed v.stage ≡ false) (sym c.self.view_is) c.requires.open)
    (λ items t here. c.in-Some.ensures.gives s fed items t here) c.put.ensures.stands
    (subst (λ (v : State). Stands v s setting fed given) (sym c.self.view_is) st)

pub returns-in-None-clause-all : goal.returns-in-None-clause-all
returns-in-None-clause-all g c = λ s setting fed given st.
    drained _ c.item.new.self s setting fed given (subst (λ (v : State). is_closed v.stage ≡ false) (sym c.self.view_is) c.requires.open)
    (subst (λ (v : State). NothingWaits v.reassembly) (sym c.self.view_is) c.requires.waits)
    (λ items t here. c.in-None.ensures.gives s fed items t here)
    (subst (λ (v : State). Stands v s setting fed given) (sym c.self.view_is) st)

pub item-requires-in-Some-clause-told : goal.item-requires-in-Some-clause-told
item-requires-in-Some-clause-told g c =
    item_asked g.O.Observer.keeps g.O.Observer.saw g.O.Observer.asks c.args.observer.now (state_of c.self.inside.front c.self.inside.reassembly c.self.inside.stage) c.item.new.self c.in-Some.item (λ s fed items t here. c.in-Some.ensures.gives s fed items t here)
    (subst (λ (v : State). g.O.Observer.asks ≡ true → HasToldSome g.O.Observer.keeps c.args.observer.now v) (sym c.self.view_is) c.requires.told)

pub returns-in-Some-clause-tells : goal.returns-in-Some-clause-tells
returns-in-Some-clause-tells g c =
    subst (λ (v : State). Tells g.O.Observer.keeps g.O.Observer.saw c.args.observer.now c.item-in-Some.new.self v (state_of c.item.new.self c.put.new.self c.self.inside.stage)) c.self.view_is
    (item_told g.O.Observer.keeps g.O.Observer.saw c.args.observer.now c.item-in-Some.new.self (state_of c.self.inside.front c.self.inside.reassembly c.self.inside.stage) (state_of c.item.new.self c.put.new.self c.self.inside.stage) c.in-Some.item (λ s fed items t here. c.in-Some.ensures.gives s fed items t here) c.item-in-Some.ensures.takes
    (subst (λ (v : State). is_closed v.stage ≡ false) (sym c.self.view_is) c.requires.open))

pub returns-in-None-clause-tells : goal.returns-in-None-clause-tells
returns-in-None-clause-tells g c =
    subst (λ (v : State). Tells g.O.Observer.keeps g.O.Observer.saw c.args.observer.now c.args.observer.now v (state_of c.item.new.self c.self.inside.reassembly c.self.inside.stage)) c.self.view_is
    (nothing_told g.O.Observer.keeps g.O.Observer.saw c.args.observer.now (state_of c.self.inside.front c.self.inside.reassembly c.self.inside.stage) (state_of c.item.new.self c.self.inside.reassembly c.self.inside.stage) (λ s fed items t here. (c.in-None.ensures.gives s fed items t here).stands)
    (λ closed end. absurd (clash closed (subst (λ (v : State). is_closed v.stage ≡ false) (sym c.self.view_is) c.requires.open))))
