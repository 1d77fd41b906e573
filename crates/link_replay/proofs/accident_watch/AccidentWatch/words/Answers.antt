-- The next words.
use Rattle.std.proofs.Common.{ℕ, ◌≡◌, ◌+◌, ◌-◌, ◌≤◌, ◌<◌, refl, sym, ap, ◌∙◌, subst, List, ◌++◌, drop, length, map, take, arith, inl, inr}
use Rattle.std.proofs.lemmas.List.{length-take}
use Rattle.lk_base.specs.declared.word.Aligned.{Aligned}
use Rattle.lk_base.specs.declared.word.RxWord.TheVariants.{Data}
use Rattle.lk_base.specs.Link.{Settings, group_of}
use Rattle.lk_base.specs.Positions.{words_from}
use Rattle.rx_front.specs.Waiting.{words_in}
use Rattle.rx_front.proofs.Waiting.{as_many, words_first}
use Rattle.word_list.specs.Received.{data_front}
use Rattle.link_replay.specs.Places.{IsGroupSlot}
use Rattle.link_replay.specs.Standing.{Holds, Watch, Watches}
use Rattle.link_replay.proofs.Fronts.{data_part, first_at}
use Rattle.link_replay.proofs.Ran.{next-on}
use Rattle.link_replay.proofs.accident_watch.AccidentWatch.words.Goals as goal

pub loop-done-preserved : goal.loop-done-preserved
loop-done-preserved c =
    let i = c.loop-done.invariant in
    let n = c.loop-done.done in
    let sent = c.args.sent.now in
    let at = c.at-at.result in
    let ws = words_in c.args.front.now.waiting in
    let v = c.loop-done.self in
    let u = c.next-done.new.self in
    let lt = c.loop-done-test.true in
    let some = c.next-done.ensures.some in
    let many = as_many at.group at.index c.args.front.now.waiting c.at-at.ensures.waiting in
    let all = c.requires.most in
    let here : n < length ws = omega (arith, lt, many, all) in
    let ahead = data_front (drop n ws) in
    let least = c.min.ensures in
    let less = c.min-in-loop-done.ensures in
    let run : c.head-run.result.now ≡ take c.min-in-loop-done.result ahead = c.head-run.ensures ∙ ap (λ (xs : List ℕ). take c.min-in-loop-done.result xs) c.data_run-ahead.ensures in
    let long = ap length c.head-run.ensures ∙ length-take c.min-in-loop-done.result c.data_run-ahead.result.now in
    let begin : take (length c.head-run.result.now) (drop n ws) ≡ map Data c.head-run.result.now =
    ap (λ (xs : List ℕ). take (length xs) (drop n ws)) run ∙ data_part c.min-in-loop-done.result (drop n ws) ∙ ap (λ (xs : List ℕ). map Data xs) (sym run) in
    let first = first_at n ws c.word.result c.word.ensures in
    let within : n + c.next-done.result ≤ c.args.count = (elim c.next-done.ensures.most [
      | inl few ↦ omega (arith, few, long, least, less, lt)
      | inr one ↦ omega (arith, one, lt)
    ]) in
    let link : c.self.inside.link ≡ v.settings = ap (λ (x : Watch). x.settings) c.self.view_is ∙ sym i.same.settings in
    let skew : c.self.inside.skew ≡ v.skew = ap (λ (x : Watch). x.skew) c.self.view_is ∙ sym i.skew in
    let size : c.group_words-size.result ≡ group_of v.settings = c.group_words-size.ensures.value ∙ ap group_of link in
    let group = subst (λ (s : Settings). IsGroupSlot s (length sent) v.skew at.group c.group_slot-first.result) link
    (subst (λ (j : ℕ). IsGroupSlot c.self.inside.link (length sent) j at.group c.group_slot-first.result) skew c.group_slot-first.ensures.slot) in
    let room : c.saturating_sub-room.result ≡ group_of v.settings - (at.index + n) = c.saturating_sub-room.ensures ∙ ap (λ (s : ℕ). s - (at.index + n)) size in
    let takes = c.next-done.ensures.takes (drop n ws) (group_of v.settings - (at.index + n)) (omega (arith, room, long, least, less)) begin first in
    let on = next-on v sent c.slot_in-slot.result at.group at.index n ws here
    (λ is_link whole. c.slot_in-slot.ensures.slot v.settings v.skew (length sent) (record { group = at.group; index = at.index + n }) is_link size refl whole group)
    u c.next-done.result some (omega (arith, within, many, all)) takes in
    record {
      within = within;
      same = record { settings = on.same.settings ∙ i.same.settings; skews = on.same.skews ∙ i.same.skews };
      skew = on.skew ∙ i.skew;
      room = (let r = i.room in let more = on.room in omega (arith, r, more));
      holds = λ locks items h. on.holds locks items (i.holds locks items h);
      watches = λ lanes locks items w. on.watches lanes locks items (i.watches lanes locks items w);
    }

pub returns-clause-holds : goal.returns-clause-holds
returns-clause-holds c = λ locks items h. (
    let at = c.at-at.result in
    let ws = words_in c.args.front.now.waiting in
    let over = c.loop-done-test.false in
    let within = c.loop-done.invariant.within in
    let n : c.loop-done.done ≡ c.args.count = omega (arith, over, within) in
    let first : words_from at.group at.index (take c.loop-done.done ws) ≡ take c.args.count c.args.front.now.waiting =
    ap (λ (k : ℕ). words_from at.group at.index (take k ws)) n ∙ sym (words_first c.args.count at.group at.index ws) ∙ ap (λ (xs : List Aligned). take c.args.count xs) (sym c.at-at.ensures.waiting) in
    subst (λ (more : List Aligned). Holds c.loop-done.self c.args.sent.now locks (items ++ more)) first (c.loop-done.invariant.holds locks items h))

pub returns-clause-watches : goal.returns-clause-watches
returns-clause-watches c = λ lanes locks items w. (
    let at = c.at-at.result in
    let ws = words_in c.args.front.now.waiting in
    let over = c.loop-done-test.false in
    let within = c.loop-done.invariant.within in
    let n : c.loop-done.done ≡ c.args.count = omega (arith, over, within) in
    let first : words_from at.group at.index (take c.loop-done.done ws) ≡ take c.args.count c.args.front.now.waiting =
    ap (λ (k : ℕ). words_from at.group at.index (take k ws)) n ∙ sym (words_first c.args.count at.group at.index ws) ∙ ap (λ (xs : List Aligned). take c.args.count xs) (sym c.at-at.ensures.waiting) in
    subst (λ (more : List Aligned). Watches c.loop-done.self c.args.sent.now lanes locks (items ++ more)) first (c.loop-done.invariant.watches lanes locks items w))
