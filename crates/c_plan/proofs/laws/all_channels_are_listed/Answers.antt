-- The law on channels.
use Rattle.c_plan.proofs.Counted.{all_channels_are_listed}
use Rattle.c_plan.proofs.laws.all_channels_are_listed.Goals as goal

pub returns : goal.returns
returns c = all_channels_are_listed
