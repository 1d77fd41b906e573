use Rattle.std.proofs.Common.{◌≡◌, ◌+◌, ◌*◌, ◌^◌, ◌<◌, ◌∙◌, arith}
use Rattle.stream_model.specs.Calendar.{calendar_bit}
use Rattle.std.proofs.lemmas.Nat.{pow-add}
use Rattle.calendar.proofs.Turn.{one_bit, is_bit, bits_more}
use Rattle.calendar.proofs.outgoing.CalendarOut.each_bit.Goals as goal

pub loop-i-preserved : goal.loop-i-preserved
loop-i-preserved c =
    let small : c.one_if.result < 2 = one_bit c.bit.result c.one_if.result c.one_if.ensures in
    let double : 2 ^ (c.loop-i.i + 1) ≡ 2 ^ c.loop-i.i * 2 = pow-add 2 c.loop-i.i 1 in
    record {
      small = omega arith;
      bits = λ entries local j t k s all h. bits_more c.loop-i.flow c.one_if.result c.loop-i.i (calendar_bit entries local j t) small (is_bit c.bit.result c.one_if.result c.one_if.ensures ∙ c.bit.ensures entries local j t s all) (λ m l. c.loop-i.invariant.bits entries local j t m s all l) k h;
    }
