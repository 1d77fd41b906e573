use Rattle.std.proofs.Common.{◌≡◌, ◌∙◌, ap, refl, true, false, length, replicate}
use Rattle.std.proofs.lemmas.List.{get_or-replicate, length-replicate}
use Rattle.stream_model.specs.Calendar.{word_number}
use Rattle.calendar.proofs.incoming.CalendarIn.new.Goals as goal

pub returns : goal.returns
unfolding word_number
returns c =
    let on : c.in_ok-on.on.items ≡ replicate 65536 true = c.in_ok-on.ensures.items_if_clones_equal (λ y h. h) in
    record {
      shown = c.in_ok-own.ensures.items;
      wide = ap length on ∙ length-replicate 65536 true;
      next = refl;
      states = λ channel h. rw on (get_or-replicate 65536 channel true false h);
    }
