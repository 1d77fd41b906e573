use Rattle.std.proofs.Common.{◌<◌, ℕ, List, All, get_or, arith}
use Rattle.std.proofs.lemmas.List.{get_or_default}
use Rattle.duplex_commands.proofs.lending.lend_packet.Goals as goal

are_bytes : (bytes : List ℕ) → ((i : ℕ) → get_or bytes i 0 < 256) → All (λ byte. byte < 256) bytes
are_bytes bytes small k d lt = let e = get_or_default bytes k 0 d lt in let h = small k in omega (arith, e, h)

pub returns-clause-bytes : goal.returns-clause-bytes
returns-clause-bytes c = are_bytes c.args.packet.now (λ i. omega (arith, c.type_inv.packet i))
