use Rattle.std.proofs.Common.{◌∙◌, ◌/◌, ◌%◌, ap, arith}
use Rattle.cell_pool.specs.Cells.{byte_of_word}
use Rattle.cell_pool.proofs.cells.bytes_of_cell.Goals as goal

pub returns : goal.returns
returns c = λ i h. c.put_cell.ensures.put i h ∙ ap (λ w. byte_of_word w (i % 8)) (c.of_cell.ensures.words (i / 8) (omega arith))
