use Rattle.damage_commands.proofs.Makers.{none_gave}
use Rattle.damage_commands.proofs.lane_maker.DamageMaker.new.Goals as goal

pub returns-clause-fresh : goal.returns-clause-fresh
returns-clause-fresh c = none_gave c.args.inputs.now c.new.result c.requires.many c.requires.skews c.requires.few c.new.ensures.items
