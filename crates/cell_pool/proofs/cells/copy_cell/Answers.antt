use Rattle.std.proofs.lemmas.Grind.{common_steps}
use Rattle.std.proofs.Common.{arith, rules}
use Rattle.cell_pool.proofs.cells.copy_cell.Goals as goal

pub returns-clause-copied : goal.returns-clause-copied
returns-clause-copied c = grind (arith, common_steps)

pub returns-clause-count : goal.returns-clause-count
returns-clause-count c = search rules
