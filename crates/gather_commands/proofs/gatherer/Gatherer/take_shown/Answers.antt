use Rattle.std.proofs.Common.{refl, rules}
use Rattle.gather_commands.proofs.Takings.{none_next}
use Rattle.gather_commands.proofs.gatherer.Gatherer.take_shown.Goals as goal

pub items-init : goal.items-init
items-init g c = record { same_faults = refl; gathering = λ out s fed was at. at; weight = refl }

pub returns-then-not-branch-clause-takes : goal.returns-then-not-branch-clause-takes
returns-then-not-branch-clause-takes g c out s fed was at =
    none_next out s fed c.take_next.new.self was _ c.in_ok-take_next.field-0 (search rules) (c.in_ok-take_next.ensures.takes out s fed was (c.items.invariant.gathering out s fed was at))
