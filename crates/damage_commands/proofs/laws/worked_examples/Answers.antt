use Rattle.std.proofs.Common.{refl}
use Rattle.std.specs.Fmt.{digits}
use Rattle.damage_commands.specs.Struck.{differing}
use Rattle.lk_base.specs.Checksum.{bits_of}
use Rattle.damage_commands.proofs.laws.worked_examples.Goals as goal

pub returns : goal.returns
unfolding differing bits_of digits
returns c = record { limit = refl; bits = refl; rows = refl; lines = refl; received = refl }
