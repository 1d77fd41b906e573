-- A word of flow control is heard, where none is refused.
use Rattle.std.proofs.Common.{ℕ, ◌∙◌, reverse, subst, sym}
use Rattle.duplex_model.specs.DuplexRun.{heard_word}
use Rattle.duplex_model.proofs.Telling.{upper_of_heard, heard_crc}
use Rattle.live_checker.specs.States.{State}
use Rattle.live_checker.specs.Standing.{Checks, with_heard}
use Rattle.live_checker.proofs.Standing.{flow_kept, heard_back}
use Rattle.live_checker.proofs.checker.LiveChecker.hear.Goals as goal

pub invariant_of-self : goal.invariant_of-self
invariant_of-self c =
    let v = c.self.inside in
    let (room, part, whole) = c.self.invariant in
    let (x, k) = whole in
    let heard : ℕ = heard_word c.args.word in
    let keeps = c.hear.ensures x.plan (reverse x.words) heard k.keeps (heard_back v.checker v.found.items v.given v.finished x k) (upper_of_heard c.args.word, heard_crc c.args.word) in
    (room, part, (with_heard heard x, flow_kept v.checker v.found.items v.given v.finished x k c.hear.new.self heard keeps))

pub returns : goal.returns
returns c = λ x h.
    let v = c.self.inside in
    let k = subst (λ (t : State). Checks t x) (sym c.self.view_is) h in
    let heard : ℕ = heard_word c.args.word in
    let keeps = c.hear.ensures x.plan (reverse x.words) heard k.keeps (heard_back v.checker v.found.items v.given v.finished x k) (upper_of_heard c.args.word, heard_crc c.args.word) in
    (sym (c.flow_refusal.ensures x h) ∙ c.in_default.is, flow_kept v.checker v.found.items v.given v.finished x k c.hear.new.self heard keeps)
