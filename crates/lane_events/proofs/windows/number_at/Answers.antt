-- The first of eight bytes.
use Rattle.std.proofs.Common.{ap, ◌∙◌, ◌*◌, arith}
use Rattle.lk_base.specs.Checksum.{bits_of}
use Rattle.lane_events.proofs.Pieces.{first_numbered}
use Rattle.lane_events.proofs.windows.number_at.Goals as goal

pub returns-clause-bits : goal.returns-clause-bits
returns-clause-bits c =
    let most = c.requires.most in
    let there = c.requires.there in
    let eight = c.if-bytes-at-lt8.false in
    ap (bits_of (8 * c.args.count)) c.first_of.ensures.value ∙ first_numbered c.args.bytes.now c.args.at c.args.count c.eight_at.result (omega (arith, most)) (omega (arith, eight, there)) c.eight_at.ensures
