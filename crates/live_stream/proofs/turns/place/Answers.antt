use Rattle.std.proofs.Common.{arith}
use Rattle.live_stream.proofs.Places.{queue_of}
use Rattle.live_stream.proofs.turns.place.Goals as goal

pub returns-clause-missing : goal.returns-clause-missing
returns-clause-missing c none known =
    let r = queue_of c.args.turns.now c.args.channel known in
    let below = r.2 in
    c.loop-at.invariant r.0 r.1 (omega (arith, below, c.loop-at-test.false)) r.3 r.4
