-- The stretch that ends is counted, or none.
use Rattle.std.proofs.Common.{◌≡◌, ap, ◌+◌, arith, subst}
use Rattle.lk_base.specs.Checksum.{digit}
use Rattle.link_replay.specs.Standing.{TakesWord, Watch}
use Rattle.link_replay.proofs.Items.{takes_word}
use Rattle.link_replay.proofs.accident_watch.AccidentWatch.word.Goals as goal

pub returns-then-word : goal.returns-then-word
returns-then-word c =
    let v = c.self.inside in
    let was : Watch = record { settings = v.link; skew = v.skew; lanes = v.lanes.items; stretch = v.stretch; groups = v.groups; stretches = v.stretches } in
    let one : digit c.word.result ≡ 1 = ap digit c.if-word.true in
    subst (λ (x : Watch). TakesWord x (record { settings = v.link; skew = v.skew; lanes = v.lanes.items; stretch = c.word.new.self; groups = v.groups; stretches = v.stretches + 1 }) c.args.sent.now c.args.slot c.args.at c.args.word) c.self.view_is
    (takes_word was c.word.new.self (v.stretches + 1) c.args.sent.now c.args.slot c.args.at c.args.word c.word.result (omega (arith, one)) c.word.ensures)

pub returns-else-word : goal.returns-else-word
returns-else-word c =
    let v = c.self.inside in
    let was : Watch = record { settings = v.link; skew = v.skew; lanes = v.lanes.items; stretch = v.stretch; groups = v.groups; stretches = v.stretches } in
    let none : digit c.word.result ≡ 0 = ap digit c.if-word.false in
    subst (λ (x : Watch). TakesWord x (record { settings = v.link; skew = v.skew; lanes = v.lanes.items; stretch = c.word.new.self; groups = v.groups; stretches = v.stretches }) c.args.sent.now c.args.slot c.args.at c.args.word) c.self.view_is
    (takes_word was c.word.new.self v.stretches c.args.sent.now c.args.slot c.args.at c.args.word c.word.result (omega (arith, none)) c.word.ensures)
