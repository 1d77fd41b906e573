use Rattle.lk_crc.proofs.Words.{one_mixed}
use Rattle.lk_crc.proofs.steps.after_word.Goals as goal

pub returns : goal.returns
returns g c p are = one_mixed g.row.WIDTH p c.args.register c.args.word c.by_bytes.result c.requires.width.0 c.requires.width.1 (c.by_bytes.ensures g.row.WIDTH p 0 are)
