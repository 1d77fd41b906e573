use Rattle.std.proofs.Common.{◌≡◌, ℕ, ◌+◌, length, subst, arith}
use Rattle.word_calls.specs.Calls.{IsReady}
use Rattle.word_calls.proofs.both_ends.three_packets.Goals as goal

pub add-requires-2-clause-ready : goal.add-requires-2-clause-ready
add-requires-2-clause-ready c =
    let long = c.requires in
    (0 + length c.args.packet.now, c.in_ok-add.ensures {u = tt} 0 c.in_ok-duplex.ensures, omega (arith, long))

pub add-requires-3-clause-ready : goal.add-requires-3-clause-ready
add-requires-3-clause-ready c =
    let long = c.requires in
    let n : ℕ = length c.args.packet.now in
    (0 + n + n, c.in_ok-add-2.ensures {u = tt} (0 + n) (c.in_ok-add.ensures {u = tt} 0 c.in_ok-duplex.ensures), omega (arith, long))

pub returns : goal.returns
returns c =
    let long = c.requires in
    let n : ℕ = length c.args.packet.now in
    let all : 0 + n + n + n ≡ 768 = omega (arith, long) in
    subst (λ (k : ℕ). IsReady k c.add-3.new.duplex) all (c.in_ok-add-3.ensures {u = tt} (0 + n + n) (c.in_ok-add-2.ensures {u = tt} (0 + n) (c.in_ok-add.ensures {u = tt} 0 c.in_ok-duplex.ensures)))
