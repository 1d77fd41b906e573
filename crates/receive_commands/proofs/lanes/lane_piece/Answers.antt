use Rattle.std.proofs.Common.{◌∙◌, sym}
use Rattle.receive_commands.proofs.Buffers.{piece_is}
use Rattle.receive_commands.proofs.lanes.lane_piece.Goals as goal

pub returns-clause-held : goal.returns-clause-held
returns-clause-held c = c.piece.ensures.held ∙ sym (piece_is c.args.buffers.now c.args.lane c.args.offset c.index-buffers-lane.result c.requires.place c.index-buffers-lane.is)
