use Rattle.std.proofs.Common.{refl}
use Rattle.lk_base.specs.Checksum.{register_after}
use Rattle.word_rules.proofs.before.Before.new.Goals as goal

pub returns : goal.returns
unfolding register_after
returns c = record {
  number = refl;
  register = c.crc24_start.ensures;
  burst = refl;
  after_bad = refl;
  size = refl;
  last = refl;
  since_burst = refl;
  any_bad = refl;
}
