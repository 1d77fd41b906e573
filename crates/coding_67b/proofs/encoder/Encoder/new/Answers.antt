-- There are no codes yet.
use Rattle.std.proofs.Common.{sym}
use Rattle.lane_model.proofs.Disparities.{none-disparity}
use Rattle.coding_67b.proofs.encoder.Encoder.new.Goals as goal

pub returns-clause-codes : goal.returns-clause-codes
returns-clause-codes c = sym none-disparity
