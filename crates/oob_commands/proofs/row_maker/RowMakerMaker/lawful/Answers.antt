use Rattle.oob_commands.proofs.Makers.{rows_begin_one, one_rows}
use Rattle.oob_commands.proofs.row_maker.RowMakerMaker.lawful.Goals as goal

pub returns-clause-begins : goal.returns-clause-begins
returns-clause-begins c = λ m given o. rows_begin_one m.reading.now m.taker m.slot m.count given o

pub returns-clause-one : goal.returns-clause-one
returns-clause-one c = one_rows
