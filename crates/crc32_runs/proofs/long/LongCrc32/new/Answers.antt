use Rattle.std.proofs.Common.{◌∙◌}
use Rattle.crc32_runs.proofs.Waiting.{none_waits}
use Rattle.crc32_runs.proofs.long.LongCrc32.new.Goals as goal

pub returns : goal.returns
returns c = none_waits c.crc32_start.result c.make_room.result ∙ c.crc32_start.ensures
