use Rattle.live_gatherer.proofs.WholeLanes.{all_are_gathered}
use Rattle.live_gatherer.proofs.laws.all_are_gathered.Goals as goal

pub returns : goal.returns
returns c = all_are_gathered
