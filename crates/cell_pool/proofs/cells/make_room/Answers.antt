use Rattle.std.proofs.Common.{rules}
use Rattle.cell_pool.proofs.cells.make_room.Goals as goal

pub take_cell-requires-clause-room : goal.take_cell-requires-clause-room
take_cell-requires-clause-room c = search rules

pub returns-then-bytes-eq0-clause-taken : goal.returns-then-bytes-eq0-clause-taken
returns-then-bytes-eq0-clause-taken c = search rules

pub returns-then-bytes-eq0-clause-moved : goal.returns-then-bytes-eq0-clause-moved
returns-then-bytes-eq0-clause-moved c = search rules
