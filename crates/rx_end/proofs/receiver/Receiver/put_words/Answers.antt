-- The first of the words that wait.
use Rattle.std.proofs.Common.{◌≡◌, ◌≤◌, sym, ap, subst, false, length, arith}
use Rattle.std.proofs.lemmas.List.{length-take-le}
use Rattle.rx_front.proofs.Waiting.{as_many}
use Rattle.rx_front.specs.Standing.{items_left}
use Rattle.rx_front.specs.Waiting.{words_in}
use Rattle.rx_end.specs.Stages.{is_closed}
use Rattle.rx_end.specs.States.{State}
use Rattle.rx_end.specs.Standing.{Stands}
use Rattle.rx_end.specs.Observing.{Tells}
use Rattle.rx_end.proofs.Putting.{words_put}
use Rattle.rx_end.proofs.Observed.{state_of, words_told}
use Rattle.rx_end.proofs.receiver.Receiver.put_words.Goals as goal

pub put_first-count-requires-clause-some : goal.put_first-count-requires-clause-some
put_first-count-requires-clause-some g c = subst (λ (v : State). 1 ≤ length v.front.waiting) (sym c.self.view_is) c.requires.some

pub returns-clause-stands : goal.returns-clause-stands
returns-clause-stands g c = λ setting_link setting fed given st.
    let at = c.at-at.result in
    let front = c.self.inside.front in
    let ws = words_in front.waiting in
    let n = c.put_first-count.result in
    let some = c.put_first-count.ensures.some in
    let most = c.put_first-count.ensures.most in
    let many = as_many at.group at.index front.waiting c.at-at.ensures.waiting in
    let l = length-take-le n ws (omega (arith, many, most)) in
    words_put _ c.pass.new.self c.put_first-count.new.reassembly at.group at.index n ws setting_link setting fed given
    (subst (λ (v : State). is_closed v.stage ≡ false) (sym c.self.view_is) c.requires.open)
    c.at-at.ensures.waiting
    (omega (arith, l, some))
    (λ items t here. c.pass.ensures.stands setting_link fed items t here) c.put_first-count.ensures.stands
    (subst (λ (v : State). Stands v setting_link setting fed given) (sym c.self.view_is) st)

pub returns-clause-fewer : goal.returns-clause-fewer
returns-clause-fewer g c =
    let o = c.put_first-count.ensures.some in
    let f = c.pass.ensures.fewer in
    let e = ap (λ (v : State). items_left v.front) c.self.view_is in
    omega (arith, o, f, e)

pub returns-clause-tells : goal.returns-clause-tells
returns-clause-tells g c =
    subst (λ (v : State). Tells g.O.Observer.keeps g.O.Observer.saw c.args.observer.now c.words.new.self v (state_of c.pass.new.self c.put_first-count.new.reassembly c.self.inside.stage)) c.self.view_is
    (words_told g.O.Observer.keeps g.O.Observer.saw c.args.observer.now c.words.new.self (state_of c.self.inside.front c.self.inside.reassembly c.self.inside.stage) (state_of c.pass.new.self c.put_first-count.new.reassembly c.self.inside.stage) c.put_first-count.result c.words.ensures.takes (λ s fed items t here. c.pass.ensures.stands s fed items t here)
    (subst (λ (v : State). is_closed v.stage ≡ false) (sym c.self.view_is) c.requires.open))
