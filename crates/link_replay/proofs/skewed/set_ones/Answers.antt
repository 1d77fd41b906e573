use Rattle.std.proofs.Common.{◌≡◌, ◌∙◌, ap, replicate, rules}
use Rattle.lk_base.specs.Checksum.{bits_of_bytes}
use Rattle.link_replay.proofs.Cuts.{ones-are}
use Rattle.link_replay.proofs.skewed.set_ones.Goals as goal

pub returns : goal.returns
returns c =
    let e : c.resize.new.self.items ≡ replicate c.args.bytes 255 = search rules in
    ap bits_of_bytes e ∙ ones-are c.args.bytes
