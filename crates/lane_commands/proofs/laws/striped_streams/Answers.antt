use Rattle.lane_commands.proofs.Filling.{stripe_once}
use Rattle.lane_commands.proofs.NoWords.{no_words_no_bytes}
use Rattle.lane_commands.proofs.laws.striped_streams.Goals as goal

pub returns-clause-once : goal.returns-clause-once
returns-clause-once c = stripe_once

pub returns-clause-none : goal.returns-clause-none
returns-clause-none c = no_words_no_bytes
