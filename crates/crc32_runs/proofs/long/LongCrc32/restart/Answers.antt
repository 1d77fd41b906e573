use Rattle.std.proofs.Common.{◌∙◌}
use Rattle.crc32_runs.proofs.Waiting.{none_waits}
use Rattle.crc32_runs.proofs.long.LongCrc32.restart.Goals as goal

pub returns : goal.returns
returns c = none_waits c.crc32_start-self-inside.result c.self.inside.words ∙ c.crc32_start-self-inside.ensures
