use Rattle.std.proofs.Common.{◌≡◌, ℕ, List, take, get_or, All, false, sym, subst, ◌∙◌, arith}
use Rattle.std.proofs.lemmas.List.{take_more, take_all}
use Rattle.std.proofs.lemmas.List.Elements.{All-push}
use Rattle.calendar.specs.Changes.{told_back}
use Rattle.live_stream.specs.Turns.{may_burst}
use Rattle.live_stream.specs.declared.waiting.Waiting.{Waiting}
use Rattle.live_stream.proofs.turns.first_ready.Goals as goal

pub loop-at-preserved : goal.loop-at-preserved
loop-at-preserved c entries rows stands =
    let turns : List Waiting = c.args.turns.now in
    let at : ℕ = c.loop-at.at in
    let q : Waiting = c.index-turns-at.result in
    let P = λ (p : Waiting). may_burst (told_back entries rows) p ≡ false in
    let here : may_burst (told_back entries rows) q ≡ false = sym (c.is_ready.ensures entries rows stands) ∙ c.if-is_ready.false in
    subst (All P) (sym (take_more turns at q c.loop-at-test.true)) (All-push P (take at turns) (get_or turns at q) (c.loop-at.invariant entries rows stands) (subst P c.index-turns-at.is here))

pub returns : goal.returns
returns c entries rows stands =
    let P = λ (p : Waiting). may_burst (told_back entries rows) p ≡ false in
    subst (All P) (take_all c.loop-at.at c.args.turns.now (omega (arith, c.loop-at-test.false))) (c.loop-at.invariant entries rows stands)
