use Rattle.std.proofs.Common.{◌∙◌, refl, sym, ap, lit≤}
use Rattle.lk_base.specs.Checksum.{digit}
use Rattle.control_words.specs.ControlWord.{IsWordOf, eop_format}
use Rattle.control_words.proofs.SameControl.{same_number}
use Rattle.retransmit.proofs.numbers.idle.Goals as goal

pub returns : goal.returns
returns c =
    let e = c.idle.ensures in
    let own : IsWordOf c.idle.result 0 0x80FFFF0000000000 = record {
      sized = lit≤ tt;
      control = refl;
      burst = sym (ap digit e.kind);
      sop = sym (ap digit e.sop);
      eop = sym (ap eop_format e.eop);
      reset = sym (ap digit e.reset);
      flow = sym e.flow;
      channel = sym e.channel;
      multi = sym e.multi;
      checksum = refl;
    } in
    same_number c.idle.result 0 c.to_word.result 0x80FFFF0000000000 c.to_word.ensures own
