use Rattle.lk_crc.proofs.Tables.{far32, near32}
use Rattle.lk_crc.proofs.crc32_words.Goals as goal

pub returns : goal.returns
returns c = c.after_words.ensures 0x1EDC6F41 near32 far32
