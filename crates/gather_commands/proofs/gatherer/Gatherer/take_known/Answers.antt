use Rattle.std.proofs.Common.{◌∙◌, refl}
use Rattle.gather_commands.proofs.Firsts.{shown_taken}
use Rattle.gather_commands.proofs.Takings.{clock_moved}
use Rattle.gather_commands.proofs.gatherer.Gatherer.take_known.Goals as goal

pub rounds-init : goal.rounds-init
rounds-init g c = record { same_faults = refl; gathering = λ out s fed was at. at }

pub go_on-requires : goal.go_on-requires
go_on-requires g c =
    let (out, s, fed, was, at) = c.requires.gathering in
    let shown = c.in_ok-take_shown.ensures.takes out s fed was (c.rounds.invariant.gathering out s fed was at) in
    record { settled = shown.drained.settled }

pub returns-then-not-go_on-clause-takes : goal.returns-then-not-go_on-clause-takes
returns-then-not-go_on-clause-takes g c out s fed was at =
    shown_taken out s fed c.take_shown.new.self _ was _ c.if-not-go_on.ensures.same refl c.if-not-go_on.ensures.stuck (c.in_ok-take_shown.ensures.takes out s fed was (c.rounds.invariant.gathering out s fed was at))

pub rounds-preserved : goal.rounds-preserved
rounds-preserved g c = record {
  same_faults = c.in_ok-take_shown.ensures.cause ∙ c.rounds.invariant.same_faults;
  gathering = λ out s fed was at.
      clock_moved out s fed c.take_shown.new.self _ was _ refl (λ items t st. c.if-not-go_on.ensures.moves s fed items t st) (c.in_ok-take_shown.ensures.takes out s fed was (c.rounds.invariant.gathering out s fed was at));
}
