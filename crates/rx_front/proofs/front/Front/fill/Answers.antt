-- Words of the deskew, where none waited.
use Rattle.std.proofs.Common.{sym, subst, rules}
use Rattle.std.proofs.lemmas.List.{nil_from_length}
use Rattle.rx_front.specs.States.{State}
use Rattle.rx_front.specs.Standing.{Stands}
use Rattle.rx_front.proofs.Known.{words_given}
use Rattle.rx_front.proofs.front.Front.fill.Goals as goal

pub returns-clause-stands : goal.returns-clause-stands
returns-clause-stands c = λ s fed items t st.
    words_given _ c.fill.new.deskew c.fill.new.self s fed items t (nil_from_length c.self.inside.block (search rules)) c.fill.ensures.ahead
    (subst (λ (v : State). Stands v s fed items t) (sym c.self.view_is) st)
