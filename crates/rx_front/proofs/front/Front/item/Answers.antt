-- The deskew's next item.
use Rattle.std.proofs.Common.{◌≡◌, ℕ, length, sym, subst, true, Option}
use Rattle.std.specs.Prelude.{IfNone}
use Rattle.lk_base.specs.declared.word.Aligned.{Aligned}
use Rattle.std.proofs.lemmas.List.{nil_from_length}
use Rattle.rx_front.specs.States.{State}
use Rattle.rx_front.specs.Standing.{Stands}
use Rattle.rx_front.proofs.Known.{item_given}
use Rattle.rx_front.proofs.front.Front.item.Goals as goal

pub returns-clause-gives : goal.returns-clause-gives
returns-clause-gives c = λ s fed items t st.
    item_given _ c.next.new.self c.next.result s fed items t
    (nil_from_length _ (subst (λ (v : State). ◌≡◌ {A = ℕ} (length v.waiting) 0) (sym c.self.view_is) c.requires))
    (λ e. subst (λ (o : Option Aligned). IfNone o (c.next.new.self.settled ≡ true)) e c.next.ensures.none)
    c.next.ensures.ahead
    (subst (λ (v : State). Stands v s fed items t) (sym c.self.view_is) st)
