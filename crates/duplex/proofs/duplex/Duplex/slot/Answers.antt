use Rattle.std.proofs.Common.{length-take, take, ◌≡◌, ◌-◌, ◌%◌, ◌==◌, ◌∙◌, ◌∷◌, ◌++◌, [], ℕ, length, refl, sym, ap₂, subst, arith}
use Rattle.std.proofs.lemmas.List.{length_push}
use Rattle.lk_base.specs.declared.word.Word.{Word}
use Rattle.duplex.specs.Sides.{IsSideAt}
use Rattle.duplex.specs.Inboxes.{Gave}
use Rattle.duplex.proofs.Listed.{bursts_listed}
use Rattle.duplex.proofs.Opens.{is_run}
use Rattle.duplex.proofs.Packets.{still_arrived}
use Rattle.duplex.proofs.Runs.{word_sent_at}
use Rattle.duplex.proofs.duplex.Duplex.slot.Goals as goal

pub turn-from_a-requires : goal.turn-from_a-requires
turn-from_a-requires c =
    let (settings, ends, slots, a, b, r, small) = c.requires.runs in
    let lb : length b ≡ slots = r.slots_of_b in
    (settings, ends, ends.packets_of_a, a, b, r.keeps, r.slots_of_a ∙ sym lb, subst (λ (n : ℕ). IsSideAt c.args.self.now.a settings ends ends.packets_of_a a b n) (sym lb) r.side_a, bursts_listed _ b (is_run c.args.self.now settings ends slots a b r).stream_of_b, r.mark, omega (arith, lb, small))

pub turn-from_b-requires : goal.turn-from_b-requires
turn-from_b-requires c =
    let (settings, ends, slots, a, b, r, small) = c.requires.runs in
    let la : length a ≡ slots = r.slots_of_a in
    (settings, ends, ends.packets_of_b, b, a, r.keeps, r.slots_of_b ∙ sym la, subst (λ (n : ℕ). IsSideAt c.args.self.now.b settings ends ends.packets_of_b b a n) (sym la) r.side_b, bursts_listed _ a (is_run c.args.self.now settings ends slots a b r).stream_of_a, r.mark, omega (arith, la, small))

pub returns-clause-runs : goal.returns-clause-runs
returns-clause-runs c settings ends slots a b r =
    let la : length a ≡ slots = r.slots_of_a in
    let lb : length b ≡ slots = r.slots_of_b in
    let from_a : Word = c.turn-from_a.result in
    let from_b : Word = c.turn-from_b.result in
    let drains_a = ap₂ (λ s d. s % d == 0) (r.slot ∙ sym lb) r.drain in
    let drains_b = ap₂ (λ s d. s % d == 0) (r.slot ∙ sym la) r.drain in
    let turned_a = c.turn-from_a.ensures settings ends ends.packets_of_a a b r.keeps (la ∙ sym lb) (subst (λ (n : ℕ). IsSideAt c.args.self.now.a settings ends ends.packets_of_a a b n) (sym lb) r.side_a) (bursts_listed _ b (is_run c.args.self.now settings ends slots a b r).stream_of_b) r.mark drains_a in
    let turned_b = c.turn-from_b.ensures settings ends ends.packets_of_b b a r.keeps (lb ∙ sym la) (subst (λ (n : ℕ). IsSideAt c.args.self.now.b settings ends ends.packets_of_b b a n) (sym la) r.side_b) (bursts_listed _ a (is_run c.args.self.now settings ends slots a b r).stream_of_a) r.mark drains_b in (
      from_a,
      from_b,
      record {
        keeps = r.keeps;
        mark = r.mark;
        drain = r.drain;
        slot = (let s = r.slot in omega (arith, s));
        slots_of_a = (let n = length_push a from_a in omega (arith, n, la));
        slots_of_b = (let n = length_push b from_b in omega (arith, n, lb));
        side_a = word_sent_at c.turn-from_a.new.self _ settings ends ends.packets_of_a (a ++ from_a ∷ []) b from_b slots lb r.keeps turned_a (c.send.ensures settings.delay b turned_a.way) refl refl refl refl;
        side_b = word_sent_at c.turn-from_b.new.self _ settings ends ends.packets_of_b (b ++ from_b ∷ []) a from_a slots la r.keeps turned_b (c.send-2.ensures settings.delay a turned_b.way) refl refl refl refl;
      },
    )

pub take-requires-clause-room : goal.take-requires-clause-room
take-requires-clause-room c =
    let (setting, settings, slots, a, b, got_a, got_b, h, small) = c.requires.got in
    let n = h.at_a.taken in
    let m = length-take (slots - settings.delay) b in
    omega (arith, n, m, small)

pub returns-clause-got : goal.returns-clause-got
returns-clause-got c setting settings ends slots a b got_a got_b from_a from_b r h =
    let d = r.keeps.delay_low in
    record {
      at_a = still_arrived _ setting settings.delay slots b got_a from_b d r.slots_of_b (c.take.ensures setting settings.delay b got_a r.side_a.way (subst (λ (n : ℕ). Gave c.args.self.now.inbox_a setting (take (n - settings.delay) b) got_a) (sym r.slots_of_b) h.at_a));
      at_b = still_arrived _ setting settings.delay slots a got_b from_a d r.slots_of_a (c.take-2.ensures setting settings.delay a got_b r.side_b.way (subst (λ (n : ℕ). Gave c.args.self.now.inbox_b setting (take (n - settings.delay) a) got_b) (sym r.slots_of_a) h.at_b));
    }
