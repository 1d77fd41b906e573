use Rattle.std.proofs.Common.{◌≡◌, ◌<◌, ◌==◌, List, ℕ, length, arith}
use Rattle.word_rules.proofs.Runs.{last_at, some_left}
use Rattle.word_rules.proofs.before.last_or.Goals as goal

pub returns : goal.returns
returns c = last_at c.args.other c.args.run.now (some_left c.args.run.now (c.if-is_empty.ensures {u = tt}))
