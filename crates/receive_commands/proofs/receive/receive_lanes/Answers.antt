use Rattle.std.proofs.Common.{◌∙◌, ap, length, replicate, Some}
use Rattle.std.proofs.lemmas.Result.{err_from_is_err_and}
use Rattle.receive_commands.proofs.ReceiveRun.{unmade}
use Rattle.receive_commands.proofs.receive.receive_lanes.Goals as goal

pub returns-in_err-lanes-clause-fills : goal.returns-in_err-lanes-clause-fills
returns-in_err-lanes-clause-fills g c =
    let p = err_from_is_err_and c.from_residual.result c.from_residual.ensures.1 in
    rw (p.1, p.2) (unmade c.args.read.now.plan _)

pub receive_open-requires-clause-receiver : goal.receive_open-requires-clause-receiver
receive_open-requires-clause-receiver g c = c.in_ok-lanes.ensures.receiver

pub receive_open-requires-clause-opened : goal.receive_open-requires-clause-opened
receive_open-requires-clause-opened g c = c.in_ok-lanes.ensures.names ∙ c.as_slice.ensures.value

pub receive_open-requires-clause-buffers : goal.receive_open-requires-clause-buffers
receive_open-requires-clause-buffers g c = c.in_ok-lanes.ensures.buffers

pub receive_open-requires-clause-fresh : goal.receive_open-requires-clause-fresh
receive_open-requires-clause-fresh g c = c.in_ok-lanes.ensures.fresh

pub receive_open-requires-clause-offsets : goal.receive_open-requires-clause-offsets
receive_open-requires-clause-offsets g c = c.in_ok-lanes.ensures.offsets ∙ ap (λ names. replicate (length names) (Some 0)) c.as_slice.ensures.value

pub returns-clause-others : goal.returns-clause-others
returns-clause-others g c = c.receive_open.ensures.others

pub returns-clause-fills : goal.returns-clause-fills
returns-clause-fills g c = c.receive_open.ensures.fills
