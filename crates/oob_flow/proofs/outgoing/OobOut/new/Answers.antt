use Rattle.std.proofs.Common.{◌≡◌, ◌∙◌, ap, refl, true, false, length, replicate, arith}
use Rattle.std.proofs.lemmas.List.{get_or-replicate, length-replicate}
use Rattle.oob_flow.proofs.Writings.{frame_long}
use Rattle.oob_flow.proofs.outgoing.OobOut.new.Goals as goal

pub returns : goal.returns
returns c =
    let on : c.in_ok-on.on.items ≡ replicate 65536 true = c.in_ok-on.ensures.items_if_clones_equal (λ y h. h) in
    record {
      calendar = c.in_ok-own.ensures.items;
      low = c.requires.low;
      high = c.requires.high;
      small = λ i. (c.type_inv.entries i).fits;
      wide = ap length on ∙ length-replicate 65536 true;
      own = λ channel h. rw on (get_or-replicate 65536 channel true false h);
      place = refl;
      within = frame_long (length c.args.entries.now) c.requires.low;
      frame = λ h. absurd (omega arith);
      sized = λ h. absurd (omega arith);
    }
