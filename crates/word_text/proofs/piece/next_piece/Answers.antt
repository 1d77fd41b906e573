use Rattle.std.proofs.Common.{List, Bool, ◌++◌, sym, ap, arith}
use Rattle.lk_base.proofs.Bits.{no_bits}
use Rattle.word_text.proofs.BitRuns.{shifted-in, below-more, first-more}
use Rattle.word_text.proofs.piece.next_piece.Goals as goal

pub loop-count-init : goal.loop-count-init
loop-count-init c = record { below = omega arith; whole = ap (λ (l : List Bool). l ++ c.args.reader.now) (sym (no_bits 0)) }

pub loop-count-preserved : goal.loop-count-preserved
loop-count-preserved c =
    let is = shifted-in c.loop-count.count c.loop-count.bits c.in-Some.bit c.loop-count-test.true c.loop-count.invariant.below in
    record {
      below = below-more c.loop-count.count c.loop-count.bits _ c.in-Some.bit c.loop-count.invariant.below is;
      whole = first-more c.args.reader.now c.loop-count.reader c.bit.new.self c.loop-count.count c.loop-count.bits _ c.in-Some.bit is c.loop-count.invariant.whole c.in-Some.ensures.some;
    }
