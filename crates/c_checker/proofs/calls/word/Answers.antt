-- The word is that of its kind and number.
use Rattle.std.proofs.Common.{subst, Option}
use Rattle.lk_base.specs.declared.word.RxWord.{RxWord}
use Rattle.live_checker.specs.States.{State}
use Rattle.c_parts.proofs.Holding.{on_held}
use Rattle.c_checker.specs.Held.{GivesKind}
use Rattle.c_checker.proofs.calls.word.Goals as goal

pub returns : goal.returns
returns c =
    let s = c.in-Some.there.value in
    let t = c.give-result.new.checker in
    let told = subst (λ (w : Option RxWord). GivesKind s t w c.give-result.result) c.word_of.ensures (subst (λ (v : State). GivesKind v t c.word_of.result c.give-result.result) c.deref_mut.ensures.value c.give-result.ensures) in
    on_held _ _ _ _ s t c.in-Some.ensures.some c.put.ensures told
