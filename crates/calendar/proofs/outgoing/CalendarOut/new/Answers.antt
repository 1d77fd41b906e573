use Rattle.std.proofs.Common.{◌≡◌, ◌∙◌, refl, sym, ap, ◌+◌, ◌*◌, ◌/◌, true, false, length, replicate}
use Rattle.std.proofs.Math.Nat.{zero-mod}
use Rattle.std.proofs.lemmas.List.{get_or-replicate, length-replicate}
use Rattle.calendar.proofs.outgoing.CalendarOut.new.Goals as goal

pub returns : goal.returns
returns c =
    let on : c.in_ok-on.on.items ≡ replicate 65536 true = c.in_ok-on.ensures.items_if_clones_equal (λ y h. h) in
    record {
      shown = c.in_ok-own.ensures.items;
      low = c.requires.low;
      wide = ap length on ∙ length-replicate 65536 true;
      first = sym (ap (λ k. 16 * k) (zero-mod ((length c.args.entries.now + 15) / 16)));
      states = λ channel h. rw on (get_or-replicate 65536 channel true false h);
      same = λ _ channel. refl;
    }
