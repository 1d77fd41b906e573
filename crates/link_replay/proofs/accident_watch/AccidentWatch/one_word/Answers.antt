-- One word, at its slot.
use Rattle.std.proofs.Common.{ℕ, ◌≡◌, ◌∙◌, refl, ap, subst, length}
use Rattle.lk_base.specs.Link.{Settings, group_of}
use Rattle.link_replay.specs.Places.{IsGroupSlot}
use Rattle.link_replay.specs.Standing.{Watch, skews_of}
use Rattle.link_replay.proofs.Items.{word_held, word_watched}
use Rattle.link_replay.proofs.Slots.{places_own}
use Rattle.link_replay.proofs.accident_watch.AccidentWatch.one_word.Goals as goal

pub returns-clause-same : goal.returns-clause-same
returns-clause-same c = record { settings = ap (λ (x : Watch). x.settings) c.word.ensures.is; skews = ap (λ (x : Watch). skews_of x.lanes) c.word.ensures.is }

pub returns-clause-holds : goal.returns-clause-holds
returns-clause-holds c = λ locks items h. word_held c.args.self.now c.args.sent.now locks items h c.args.at c.args.word c.slot_in-slot.result c.word.new.self c.word.ensures

pub returns-clause-watches : goal.returns-clause-watches
returns-clause-watches c = λ lanes locks items w. (
    let v = c.args.self.now in
    let sent = c.args.sent.now in
    let link : c.self.inside.link ≡ v.settings = ap (λ (x : Watch). x.settings) c.self.view_is in
    let skew : c.self.inside.skew ≡ v.skew = ap (λ (x : Watch). x.skew) c.self.view_is in
    let size : c.group_words-size.result ≡ group_of v.settings = c.group_words-size.ensures.value ∙ ap group_of link in
    let first = subst (λ (s : Settings). IsGroupSlot s (length sent) v.skew c.args.at.group c.group_slot-first.result) link
    (subst (λ (j : ℕ). IsGroupSlot c.self.inside.link (length sent) j c.args.at.group c.group_slot-first.result) skew c.group_slot-first.ensures.slot) in
    word_watched v sent lanes locks items w c.args.at c.args.word c.slot_in-slot.result c.word.new.self (places_own v.settings v.skew w.held.link)
    (c.slot_in-slot.ensures.slot v.settings v.skew (length sent) c.args.at w.held.link size refl w.held.whole first) c.word.ensures)
