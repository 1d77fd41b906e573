use Rattle.lane_damage.specs.Stretches.{damage_of}
use Rattle.lane_damage.proofs.RowSteps.{damaged-all}
use Rattle.lane_damage.proofs.rows.damage.Goals as goal

pub returns : goal.returns
returns c = damaged-all (damage_of c.args.flips.now c.args.darks.now) c.args.start c.args.bytes.now c.invert_all.new.bytes c.darken.new.bytes c.invert_all.ensures c.darken.ensures
