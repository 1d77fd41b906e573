use Rattle.std.proofs.Common.{refl, []}
use Rattle.duplex.proofs.inbox.Inbox.new.Goals as goal

pub returns : goal.returns
returns c = (c.in_ok-reassembly.ensures.0, λ setting is. record { taken = refl; given = []; stands = c.in_ok-reassembly.ensures.1 setting is; got_is = refl })
