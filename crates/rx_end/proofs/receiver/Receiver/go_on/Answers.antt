-- The front goes on.
use Rattle.std.proofs.Common.{◌≡◌, refl, sym, ◌∙◌, subst, true}
use Rattle.rx_front.specs.States as front
use Rattle.rx_end.specs.States.{State}
use Rattle.rx_end.specs.Standing.{Stands}
use Rattle.rx_end.specs.Observing.{HasToldSome, Tells}
use Rattle.rx_end.proofs.Putting.{front_stands}
use Rattle.rx_end.proofs.Observed.{closed_now, locks_asked, locks_told, same_front, state_of}
use Rattle.rx_end.proofs.receiver.Receiver.go_on.Goals as goal

pub returns-then-go_on-clause-stands : goal.returns-then-go_on-clause-stands
returns-then-go_on-clause-stands g c = λ s setting fed given d.
    front_stands _ c.go_on.new.self s setting fed fed given (sym c.is_closed.ensures ∙ c.if-is_closed.false)
    (λ items t here. let m = c.if-go_on.ensures.moves s fed items t here in (m.to, m.stands))
    (subst (λ (v : State). Stands v s setting fed given) (sym c.self.view_is) d.stands)

pub moved-requires : goal.moved-requires
moved-requires g c =
    locks_asked g.O.Observer.keeps g.O.Observer.saw g.O.Observer.asks c.args.observer.now (state_of c.self.inside.front c.self.inside.reassembly c.self.inside.stage) c.go_on.new.self (λ s fed items t here. c.if-go_on.ensures.moves s fed items t here)
    (subst (λ (v : State). g.O.Observer.asks ≡ true → HasToldSome g.O.Observer.keeps c.args.observer.now v) (sym c.self.view_is) c.requires.told)

pub returns-then-go_on-clause-tells : goal.returns-then-go_on-clause-tells
returns-then-go_on-clause-tells g c =
    subst (λ (v : State). Tells g.O.Observer.keeps g.O.Observer.saw c.args.observer.now c.moved.new.self v (state_of c.go_on.new.self c.self.inside.reassembly c.self.inside.stage)) c.self.view_is
    (locks_told g.O.Observer.keeps g.O.Observer.saw c.args.observer.now c.moved.new.self (state_of c.self.inside.front c.self.inside.reassembly c.self.inside.stage) (state_of c.go_on.new.self c.self.inside.reassembly c.self.inside.stage) (λ s fed items t here. c.if-go_on.ensures.moves s fed items t here) c.moved.ensures.takes (sym c.is_closed.ensures ∙ c.if-is_closed.false))

pub returns-then-is_closed-clause-tells : goal.returns-then-is_closed-clause-tells
returns-then-is_closed-clause-tells g c = same_front g.O.Observer.keeps g.O.Observer.saw c.args.observer.now c.args.self.now c.args.self.now refl refl

pub returns-clause-tells : goal.returns-clause-tells
returns-clause-tells g c =
    subst (λ (v : State). Tells g.O.Observer.keeps g.O.Observer.saw c.args.observer.now c.args.observer.now v c.close.new.self) c.self.view_is
    (subst (λ (f : front.State). Tells g.O.Observer.keeps g.O.Observer.saw c.args.observer.now c.args.observer.now (state_of f c.self.inside.reassembly c.self.inside.stage) c.close.new.self) (c.if-go_on.ensures {u = tt}).same
    (closed_now g.O.Observer.keeps g.O.Observer.saw c.args.observer.now c.close.result (state_of c.go_on.new.self c.self.inside.reassembly c.self.inside.stage) c.close.new.self c.close.ensures.front c.close.ensures.at_end c.close.ensures.same))
