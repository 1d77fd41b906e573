-- One more word, and the last.
use Rattle.std.proofs.Common.{ℕ, ◌≡◌, ◌+◌, ◌∙◌, ap, sym, List, drop, length, map, min, take, arith}
use Rattle.std.proofs.Math.ListN.{drop_of_length-le}
use Rattle.lk_base.specs.declared.word.Word.{Word}
use Rattle.lk_base.specs.Words.{payload, word_at}
use Rattle.reassembly.specs.Folds.{with_all_data}
use Rattle.reassembly.specs.Steps.{with_data}
use Rattle.link_replay.proofs.CaughtUp.{left-on, least-length}
use Rattle.link_replay.proofs.watched_stretch.take_sent.Goals as goal

pub loop-slot-preserved : goal.loop-slot-preserved
loop-slot-preserved c =
    let ws = c.args.sent.now in
    let n = c.loop-slot.slot in
    let most : c.min-slot-end.result ≡ min c.args.next (length ws) = c.min-slot-end.ensures ∙ ap (min c.args.next) c.len.ensures.value in
    let lt = c.loop-slot-test.true in
    let number : c.number.result ≡ payload (word_at ws n) = c.number.ensures ∙ ap payload c.get.ensures in
    ap (with_all_data (map payload (drop (n + 1) (take c.args.next ws)))) (c.data.ensures ∙ ap (λ (x : ℕ). with_data x c.loop-slot.checked) number)
    ∙ sym (ap (λ (xs : List ℕ). with_all_data xs c.loop-slot.checked) (left-on ws n c.args.next (omega (arith, lt, most))))
    ∙ c.loop-slot.invariant

pub returns : goal.returns
returns c =
    let ws = c.args.sent.now in
    let n = c.loop-slot.slot in
    let most : c.min-slot-end.result ≡ min c.args.next (length ws) = c.min-slot-end.ensures ∙ ap (min c.args.next) c.len.ensures.value in
    let over = c.loop-slot-test.false in
    let none = least-length ws c.args.next in
    sym (ap (λ (xs : List Word). with_all_data (map payload xs) c.loop-slot.checked) (drop_of_length-le (take c.args.next ws) (omega (arith, over, most, none))))
    ∙ c.loop-slot.invariant
