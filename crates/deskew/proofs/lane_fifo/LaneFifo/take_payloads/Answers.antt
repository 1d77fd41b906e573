-- The words are put at once, where there is a lock.
use Rattle.std.proofs.Common.{◌+◌, ◌-◌, ◌*◌, ◌≤◌, sym, ap, ◌∙◌, subst, length, arith}
use Rattle.deskew.specs.States.{LaneState}
use Rattle.deskew.specs.Runs.{all_worded}
use Rattle.deskew.proofs.Runs.{payloads_lost, payloads_none, payloads_put}
use Rattle.deskew.proofs.lane_fifo.LaneFifo.take_payloads.Goals as goal

pub returns-then-count-eq0 : goal.returns-then-count-eq0
returns-then-count-eq0 c number = payloads_none c.args.self.now number c.args.at c.args.words.now c.if-count-eq0.true

pub returns-else-has_lock : goal.returns-else-has_lock
returns-else-has_lock c number = payloads_lost c.args.self.now number c.args.at c.args.words.now (sym c.has_lock.ensures ∙ c.if-has_lock.false)

pub returns-then-has_lock : goal.returns-then-has_lock
returns-then-has_lock c number =
    let l : LaneState = c.args.self.now in
    let n = c.len-kept.ensures.len in
    let w = c.len-kept.ensures.within.0 in
    let some = c.if-count-eq0.false in
    let fits : length l.words ≤ l.room = subst (λ (x : LaneState). length x.words ≤ x.room) c.self.view_is (omega (arith, n, w)) in
    c.put-then-has_lock.ensures ∙ ap (λ (x : LaneState). all_worded c.args.words.now (c.args.at + 67 * (length c.args.words.now - 1)) x.sync l) c.put.view_is
    ∙ payloads_put l number c.args.at c.args.words.now (omega (arith, some)) (sym c.has_lock.ensures ∙ c.if-has_lock.true) fits
