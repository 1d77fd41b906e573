-- The calendar takes the word.
use Rattle.std.proofs.Common.{sym, subst}
use Rattle.calendar.specs.Incoming.{Stands}
use Rattle.live_receiver.proofs.far_end.FarEnd.take.Goals as goal

pub invariant_of-self : goal.invariant_of-self
invariant_of-self c =
    let was = c.self.invariant in
    (was.0, _, c.take.ensures.stands was.0 was.1 0 c.requires.0 was.2 c.requires.1)

pub returns : goal.returns
returns c entries rows w heard stands = c.take.ensures.stands entries rows 0 w (subst (λ v. Stands v entries rows) (sym c.self.view_is) heard) stands
