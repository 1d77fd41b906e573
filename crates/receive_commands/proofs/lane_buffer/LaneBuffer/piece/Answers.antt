use Rattle.std.proofs.Common.{rules}
use Rattle.receive_commands.proofs.Buffers.{piece_within}
use Rattle.receive_commands.proofs.lane_buffer.LaneBuffer.piece.Goals as goal

pub returns-clause-within : goal.returns-clause-within
returns-clause-within c le = piece_within c.args.self.now c.args.offset c.piece_of.result.now c.requires (search rules) le
