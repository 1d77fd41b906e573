use Rattle.std.proofs.Common.{arith}
use Rattle.std.proofs.lemmas.Result.{on_ok_weaker}
use Rattle.word_calls.proofs.Running.{added}
use Rattle.word_calls.proofs.both_ends.add.Goals as goal

pub packet-requires-clause-waits : goal.packet-requires-clause-waits
packet-requires-clause-waits c =
    let (total, r, small) = c.requires.ready in
    let t = r.total_is in
    (r.settings, r.ends, r.waits, r.listed, omega (arith, t, small))

pub returns : goal.returns
returns c = on_ok_weaker c.packet.result (λ adds total r. added c.args.duplex.now c.packet.new.self total c.args.packet.now r adds c.packet.ensures.inboxes) c.packet.ensures.ok
