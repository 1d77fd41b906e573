-- The words are given to what the handle has.
use Rattle.std.proofs.Common.{subst}
use Rattle.live_checker.specs.States.{State}
use Rattle.c_parts.proofs.Holding.{on_held}
use Rattle.c_checker.specs.Many.{GivesWords, asked}
use Rattle.c_checker.proofs.calls.words.Goals as goal

pub returns : goal.returns
returns c =
    let s = c.in-Some.there.value in
    let t = c.give_words-result.new.checker in
    let told = subst (λ (v : State). GivesWords v t (asked c.args.words.now) c.give_words-result.result c.give_words-result.new.taken) c.deref_mut.ensures.value c.give_words-result.ensures in
    on_held _ _ _ _ s t c.in-Some.ensures.some c.put.ensures told
