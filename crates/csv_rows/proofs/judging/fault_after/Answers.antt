use Rattle.std.proofs.Common.{◌∙◌, ap}
use Rattle.csv_rows.specs.Said.{Item}
use Rattle.csv_rows.specs.Checked.{fault_again, later_fault}
use Rattle.csv_rows.specs.declared.table.Times.{Times}
use Rattle.csv_rows.proofs.judging.fault_after.Goals as goal

pub returns : goal.returns
unfolding later_fault
returns g c =
    c.fault_for.ensures
    ∙ ap (λ (t : Times). fault_again t c.args.before.now (record { key = g.K.Keys.place c.item.inside.key; number = c.item.inside.number })) c.times_of.ensures
    ∙ ap (λ (i : Item). later_fault g.K.Keys.rules c.args.before.now i) c.item.view_is
