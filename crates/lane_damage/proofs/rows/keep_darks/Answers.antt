use Rattle.std.proofs.Common.{rules, ◌∙◌, ap, map}
use Rattle.std.specs.Prelude.{max, nat_lt}
use Rattle.std.proofs.lemmas.Fn.{filter_same}
use Rattle.lane_damage.specs.declared.rows.Stretch.{Stretch}
use Rattle.lane_damage.specs.Stretches.{dark_bits}
use Rattle.lane_damage.proofs.RowSteps.{kept-darks}
use Rattle.lane_damage.proofs.rows.keep_darks.Goals as goal

pub returns : goal.returns
returns c =
    ap (map dark_bits) (filter_same _ (λ (s : Stretch). nat_lt c.args.next (max s.first s.end)) _ (λ x b f' k. search rules) _ _ c.retain.ensures.filtered) ∙ kept-darks c.args.next c.args.darks.now.items
