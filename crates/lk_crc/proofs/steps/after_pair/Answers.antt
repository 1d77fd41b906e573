use Rattle.lk_crc.proofs.Words.{two_mixed}
use Rattle.lk_crc.proofs.steps.after_pair.Goals as goal

pub returns : goal.returns
returns g c p near far =
    two_mixed g.row.WIDTH p c.args.register c.args.first c.args.second c.by_bytes.result c.by_bytes-2.result c.requires.width.0 c.requires.width.1
    (c.by_bytes.ensures g.row.WIDTH p 0 near) (c.by_bytes-2.ensures g.row.WIDTH p 64 far)
