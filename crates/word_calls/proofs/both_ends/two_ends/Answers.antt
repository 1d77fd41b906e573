use Rattle.std.proofs.Common.{false, arith, refl}
use Rattle.word_calls.proofs.Running.{only_one, made}
use Rattle.word_calls.proofs.both_ends.two_ends.Goals as goal

pub new-requires-clause-among : goal.new-requires-clause-among
new-requires-clause-among c = only_one

pub returns : goal.returns
returns c = made c.new.result _ _ 262144 false (0, omega arith, refl) refl c.new.ensures.waits c.new.ensures.given c.new.ensures.got
