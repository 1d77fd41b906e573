-- One more byte.
use Rattle.std.proofs.Common.{◌≤◌, arith}
use Rattle.rx_front.proofs.Gathering.{gathered_low, none_gathered, one_gathered}
use Rattle.rx_front.proofs.fed_lane.gathered.Goals as goal

pub loop-k-init : goal.loop-k-init
loop-k-init c = none_gathered c.args.ring.now

pub overflow_mul-bits : goal.overflow_mul-bits
overflow_mul-bits c =
    let few : c.loop-k.k ≤ 6 = (let t = c.loop-k-test.true in let m = c.requires.most in omega (arith, t, m)) in
    let low = gathered_low c.args.ring.now c.loop-k.ring c.loop-k.k c.loop-k.bits few c.loop-k.invariant in
    omega (arith, low)

pub loop-k-preserved : goal.loop-k-preserved
loop-k-preserved c =
    one_gathered c.args.ring.now c.loop-k.ring c.next_byte.new.ring c.loop-k.k c.loop-k.bits c.next_byte.result (let t = c.loop-k-test.true in let m = c.requires.there in omega (arith, t, m)) c.next_byte.type_inv
    c.loop-k.invariant c.next_byte.ensures.value c.next_byte.ensures.ring
