use Rattle.std.proofs.Common.{arith}
use Rattle.std.proofs.lemmas.Nat.{xor_lt}
use Rattle.damage_commands.proofs.Differing.{differing_bytes}
use Rattle.damage_commands.proofs.struck.differing_bits.Goals as goal

pub returns : goal.returns
returns c = differing_bytes c.args.a c.args.b (xor_lt 8 c.args.a c.args.b (omega arith) (omega arith))
