use Rattle.std.proofs.Common.{ap, ◌∙◌}
use Rattle.crc32_runs.proofs.Mixed.{rest_taken}
use Rattle.crc32_runs.specs.Registers.{register_of}
use Rattle.crc32_runs.proofs.run.crc32_near.Goals as goal

pub returns : goal.returns
returns c = c.crc32_words.ensures ∙ ap register_of (rest_taken c.fold_near-at.result c.fold_near-at.new.words) ∙ c.fold_near-at.ensures.register
