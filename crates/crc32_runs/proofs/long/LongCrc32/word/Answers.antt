use Rattle.std.proofs.Common.{ℕ, ap, ◌∙◌}
use Rattle.lk_base.specs.Checksum.{bits_of, register_after}
use Rattle.crc32_runs.proofs.Waiting.{none_waits}
use Rattle.crc32_runs.proofs.long.LongCrc32.word.Goals as goal

pub returns : goal.returns
returns c =
    none_waits c.crc32_word-self-inside.result c.settle-register.new.words ∙ c.crc32_word-self-inside.ensures
    ∙ ap (λ (r : ℕ). register_after 32 0x1EDC6F41 r (bits_of 64 c.args.word)) (c.settle-register.ensures ∙ c.self.view_is)
