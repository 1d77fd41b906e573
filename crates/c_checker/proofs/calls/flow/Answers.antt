-- The word is heard with the checksum of itself alone.
use Rattle.std.proofs.Common.{subst}
use Rattle.duplex_model.specs.DuplexRun.{heard_word}
use Rattle.live_checker.specs.States.{State}
use Rattle.live_checker.specs.Calls.{IsFlow}
use Rattle.c_parts.proofs.Holding.{on_held}
use Rattle.c_checker.proofs.calls.flow.Goals as goal

pub returns : goal.returns
returns c =
    let s = c.in-Some.there.value in
    let t = c.hear-answer.new.self in
    let told = subst (λ (v : State). IsFlow v t (heard_word c.args.word) c.hear-answer.result) c.deref_mut.ensures.value c.hear-answer.ensures in
    on_held _ _ _ _ s t c.in-Some.ensures.some c.put.ensures (c.hear-answer.result, told, c.ended.ensures)
