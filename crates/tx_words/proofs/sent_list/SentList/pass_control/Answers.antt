use Rattle.std.proofs.Common.{sym, ap, subst, ◌∙◌, ◌+◌, ◌≡◌, ◌≤◌, ◌∷◌, [], ◌++◌, List, take, length, arith, rules}
use Rattle.std.specs.Vec.{with_items}
use Rattle.std.proofs.lemmas.List.{length_push, with_items_is}
use Rattle.tx_words.specs.declared.sent.Sent.{Sent}
use Rattle.tx_words.specs.declared.sent.Place.{Place}
use Rattle.tx_words.specs.Places.{channel_after, Stands, Half}
use Rattle.tx_words.proofs.Opening.{last-push}
use Rattle.tx_words.proofs.sent_list.SentList.pass_control.Goals as goal

pub returns : goal.returns
returns c p total lists =
    let v = c.args.self.now.list in
    let w = c.args.self.now.places in
    let list : c.deref_mut.result.now ≡ v.items = search rules in
    let places : c.deref_mut-2.result.now ≡ w.items = search rules in
    let stands = subst (λ (xs : List Sent). Stands p (take c.args.self.now.count xs) c.deref_mut-2.result.now) (sym list) (subst (λ (ys : List Place). Stands p (take c.args.self.now.count v.items) ys) (sym places) lists.stands) in
    let within : c.args.self.now.count ≤ length c.deref_mut.result.now = omega (arith, lists.within, ap length list) in
    let half = c.end_packet.ensures.half p c.args.self.now.count stands within lists.slot lists.last in
    let one : length c.end_packet.new.list ≡ v.len = c.end_packet.ensures.long ∙ ap length list ∙ sym v.ok.0 in
    let two : length c.end_packet.new.places ≡ w.len = c.end_packet.ensures.places ∙ ap length places ∙ sym w.ok.0 in
    let new_list : c.deref_mut-3.result.now ≡ c.end_packet.new.list = c.deref_mut-3.ensures.value ∙ with_items_is v c.end_packet.new.list one in
    let new_places : c.deref_mut-4.result.now ≡ c.end_packet.new.places = c.deref_mut-4.ensures.value ∙ with_items_is w c.end_packet.new.places two in
    let begun = subst (λ (xs : List Sent). Half p c.args.word (take c.args.self.now.count xs) c.deref_mut-4.result.now) (sym new_list) (subst (λ (ys : List Place). Half p c.args.word (take c.args.self.now.count c.end_packet.new.list) ys) (sym new_places) half) in
    let three : length c.start_packet-self.new.list ≡ v.len = c.start_packet-self.ensures.long ∙ ap length new_list ∙ one in
    let four : length c.start_packet-self.new.places ≡ w.len = c.start_packet-self.ensures.places ∙ ap length new_places ∙ two in
    let last_list = with_items_is (with_items v c.end_packet.new.list) c.start_packet-self.new.list three in
    let last_places = with_items_is (with_items w c.end_packet.new.places) c.start_packet-self.new.places four in
    record {
      stands = subst (λ (xs : List Sent). Stands (p ++ c.args.word ∷ []) (take c.start_packet-self.result xs) (with_items (with_items w c.end_packet.new.places) c.start_packet-self.new.places).items) (sym last_list)
          (subst (λ (ys : List Place). Stands (p ++ c.args.word ∷ []) (take c.start_packet-self.result c.start_packet-self.new.list) ys) (sym last_places) (c.start_packet-self.ensures.stands p begun lists.slot));
      within = omega (arith, c.start_packet-self.ensures.within, ap length last_list);
      room = (let a = ap length last_list in let b = v.ok.0 in omega (arith, a, three, b, lists.room));
      last = c.channel_after-self.ensures.channel ∙ ap (λ l. channel_after l c.args.word) lists.last ∙ sym (last-push p c.args.word);
      low = c.channel_after-self.ensures.within lists.low;
      slot = ap (λ n. n + 1) lists.slot ∙ sym (length_push p c.args.word);
    }
