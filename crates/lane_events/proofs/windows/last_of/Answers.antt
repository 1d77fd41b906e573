-- The last code below the one before.
use Rattle.std.proofs.Common.{get_or, arith}
use Rattle.lane_lock.proofs.EightWords.{code_low}
use Rattle.lane_events.proofs.LastBits.{pushed_is}
use Rattle.lane_events.proofs.windows.last_of.Goals as goal

pub returns : goal.returns
returns c = pushed_is (get_or c.args.codes.now 6 0) (get_or c.args.codes.now 7 0) 67 (omega arith) (code_low c.args.codes.now 7 (let n = c.told-codes in omega (arith, n)) c.requires)
