-- The idle of these fields with its own checksum is the word that the definition names.
use Rattle.std.proofs.Common.{◌≡◌, [], ℕ, lit≤, refl, sym, ap}
use Rattle.lk_base.specs.Checksum.{bits_of, control_crc, digit, register_after}
use Rattle.lk_base.specs.Fields.{crc_field}
use Rattle.lk_base.specs.declared.word.Word.TheVariants as sent
use Rattle.control_words.specs.ControlWord.{IsWordOf, eop_format}
use Rattle.control_words.proofs.SameControl.{same_sealed}
use Rattle.lane_commands.proofs.lane_maker.filler.Goals as goal

own_checksum : crc_field 0x81FF_FF00_0018_8177 ≡ control_crc [] 0x81FF_FF00_0018_8177
unfolding bits_of register_after
own_checksum = refl

pub returns : goal.returns
returns c =
    let i = c.idle.ensures in
    let (crc, fields) = c.sealed.ensures.fields in
    let own : IsWordOf c.idle.result 0x188177 0x81FF_FF00_0018_8177 = record {
      sized = lit≤ tt;
      control = refl;
      burst = sym (ap digit i.kind);
      sop = sym (ap digit i.sop);
      eop = sym (ap eop_format i.eop);
      reset = sym (ap digit i.reset);
      flow = sym i.flow;
      channel = sym i.channel;
      multi = sym i.multi;
      checksum = refl;
    } in
    ap (λ (x : ℕ). sent.Control x) (same_sealed c.idle.result [] crc 0x188177 c.sealed.result 0x81FF_FF00_0018_8177 fields own c.sealed.ensures.checksum own_checksum)
