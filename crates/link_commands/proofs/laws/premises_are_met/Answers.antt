-- Proved above.
use Rattle.link_commands.proofs.DamagedHolds.{damaged_meets}
use Rattle.link_commands.proofs.PremisesHold.{held_meets, skewed_meets}
use Rattle.link_commands.proofs.TwoHolds.{one_of_two}
use Rattle.link_commands.proofs.laws.premises_are_met.Goals as goal

pub returns : goal.returns
returns c = record { skewed = skewed_meets; held = held_meets; damaged = damaged_meets; one_of_two = one_of_two }
