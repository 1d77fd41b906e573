use Rattle.std.proofs.Common.{[]}
use Rattle.lk_base.specs.Checksum.{control_crc}
use Rattle.control_words.proofs.SameControl.{same_sealed}
use Rattle.oob_flow.specs.Words.{idle_word}
use Rattle.oob_flow.proofs.Idle.{is_word}
use Rattle.oob_flow.proofs.block.idle_word.Goals as goal

pub returns : goal.returns
returns c =
    let e = c.idle.ensures in
    let own = is_word c.args.reset c.args.flow c.idle.result c.ranges.flow.fits e.kind e.sop e.eop e.reset e.flow e.channel e.multi in
    same_sealed _ [] c.sealed.ensures.fields.0 (control_crc [] (idle_word c.args.reset c.args.flow)) c.sealed.result (idle_word c.args.reset c.args.flow) c.sealed.ensures.fields.1 own c.sealed.ensures.checksum own.checksum
