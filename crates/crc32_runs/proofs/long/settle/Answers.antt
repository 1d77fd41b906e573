use Rattle.std.proofs.Common.{ℕ, sym, ap, ◌∙◌, take}
use Rattle.lk_base.specs.Checksum.{bits_of_words, register_after}
use Rattle.crc32_runs.proofs.Waiting.{none_waits}
use Rattle.crc32_runs.proofs.long.settle.Goals as goal

pub returns-then-waiting-eq0 : goal.returns-then-waiting-eq0
returns-then-waiting-eq0 c =
    sym (none_waits c.args.register c.args.words.now)
    ∙ ap (λ (n : ℕ). register_after 32 0x1EDC6F41 c.args.register (bits_of_words (take n c.args.words.now))) (sym c.if-waiting-eq0.true)
