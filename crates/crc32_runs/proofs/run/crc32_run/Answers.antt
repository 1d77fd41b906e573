use Rattle.std.proofs.Common.{ap, ◌∙◌, arith}
use Rattle.crc32_runs.proofs.Mixed.{first_mixed, rest_taken}
use Rattle.crc32_runs.specs.Registers.{register_of}
use Rattle.crc32_runs.proofs.run.crc32_run.Goals as goal

pub returns : goal.returns
returns c =
    c.crc32_near.ensures ∙ ap register_of (rest_taken c.fold_far-at.result c.fold_far-at.new.words)
    ∙ c.fold_far-at.ensures.register ∙ first_mixed c.args.register c.args.words.now (omega arith)
