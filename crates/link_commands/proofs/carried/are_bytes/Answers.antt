use Rattle.std.proofs.Common.{arith}
use Rattle.link_commands.proofs.OfBytes.{small_bytes}
use Rattle.link_commands.proofs.carried.are_bytes.Goals as goal

pub returns : goal.returns
returns c = small_bytes c.args.bytes.now (λ i. omega (arith, c.type_inv.bytes i))
