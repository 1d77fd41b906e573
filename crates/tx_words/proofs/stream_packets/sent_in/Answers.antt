use Rattle.std.proofs.Common.{◌≡◌, ◌+◌, ◌<◌, ◌≤◌, ◌∙◌, ℕ, List, take, length, cond, count_by, ap, subst, sym, arith}
use Rattle.std.proofs.lemmas.List.{take_all, length-take-le}
use Rattle.lk_base.specs.Words.{word_at}
use Rattle.lk_base.specs.declared.word.Word.{Word}
use Rattle.tx_words.specs.declared.sent_list.SentList.{SentList}
use Rattle.tx_words.specs.Sent.{AreSent, starts}
use Rattle.tx_words.specs.SentLists.{Lists}
use Rattle.word_list.proofs.Places.{next_is}
use Rattle.tx_words.proofs.Opening.{count-push}
use Rattle.tx_words.proofs.SentLists.{starts_in_first}
use Rattle.tx_words.proofs.stream_packets.sent_in.Goals as goal

-- there is room for the packet that it starts
roomy : (l : SentList) (w : List Word) (k : ℕ) (x : Word) → k < length w → x ≡ word_at w k → Lists l (take k w) (count_by starts (take k w) + cond (starts x) 1 0) → Lists l (take k w) (count_by starts (take (k + 1) w))
roomy l w k x lt at is =
    subst (λ n. Lists l (take k w) n) (sym (count-push starts (take k w) x) ∙ ap (count_by starts) (next_is w k x lt at)) is

pub pass-requires : goal.pass-requires
pass-requires c =
    let w = c.args.words.now in
    let k = c.loop-slot.slot in
    let lt : k < length w = omega (arith, c.loop-slot-test.true, c.len-slot-end.ensures.value) in
    let first = starts_in_first (k + 1) w in
    let long : length (take k w) ≡ k = length-take-le k w (omega arith) in (
      take k w,
      count_by starts (take (k + 1) w),
      roomy c.make_room.new.list w k c.get-word.result lt c.get-word.ensures (c.in_ok-make_room.ensures (take k w) (count_by starts (take k w)) c.loop-slot.invariant),
      subst (λ p. count_by starts p ≤ count_by starts (take (k + 1) w)) (sym (next_is w k c.get-word.result lt c.get-word.ensures)) (omega arith),
      (let few = c.requires in omega (arith, first, few)),
      (omega (arith, long, lt, c.len-slot-end.ensures.few)),
    )

pub loop-slot-preserved : goal.loop-slot-preserved
loop-slot-preserved c =
    let w = c.args.words.now in
    let k = c.loop-slot.slot in
    let lt : k < length w = omega (arith, c.loop-slot-test.true, c.len-slot-end.ensures.value) in
    subst (λ p. Lists c.pass.new.self p (count_by starts (take (k + 1) w))) (next_is w k c.get-word.result lt c.get-word.ensures)
    (c.pass.ensures (take k w) (count_by starts (take (k + 1) w))
    (roomy c.make_room.new.list w k c.get-word.result lt c.get-word.ensures (c.in_ok-make_room.ensures (take k w) (count_by starts (take k w)) c.loop-slot.invariant)))

pub into_sent-requires : goal.into_sent-requires
into_sent-requires c = (_, _, c.loop-slot.invariant)

pub returns : goal.returns
returns c =
    subst (λ p. AreSent p c.into_sent.result.items) (take_all c.loop-slot.slot c.args.words.now (omega (arith, c.loop-slot-test.false, c.len-slot-end.ensures.value)))
    (c.into_sent.ensures (take c.loop-slot.slot c.args.words.now) (count_by starts (take c.loop-slot.slot c.args.words.now)) c.loop-slot.invariant)
