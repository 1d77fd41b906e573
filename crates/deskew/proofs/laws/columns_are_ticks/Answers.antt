-- The laws.
use Rattle.deskew.proofs.Columns.{batch_of_columns, columns_are_ticks}
use Rattle.deskew.proofs.laws.columns_are_ticks.Goals as goal

pub returns-clause-ticks : goal.returns-clause-ticks
returns-clause-ticks c = columns_are_ticks

pub returns-clause-batch : goal.returns-clause-batch
returns-clause-batch c = batch_of_columns
