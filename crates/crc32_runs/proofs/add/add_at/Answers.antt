use Rattle.crc32_runs.proofs.Added.{added_at}
use Rattle.crc32_runs.proofs.add.add_at.Goals as goal

pub returns-clause-register : goal.returns-clause-register
returns-clause-register c = added_at 0 c.args.words.now c.args.at c.args.word c.requires
