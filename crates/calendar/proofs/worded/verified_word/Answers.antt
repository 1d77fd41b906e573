use Rattle.std.proofs.Common.{sym, subst}
use Rattle.calendar.specs.Incoming.{StandsFor}
use Rattle.calendar.proofs.Heard.{heard_stands}
use Rattle.calendar.proofs.worded.verified_word.Goals as goal

pub returns : goal.returns
returns c row heard =
    subst (λ o. StandsFor o row) (sym c.ok.ensures.value) (heard_stands c.args.word row heard c.control.result c.ranges.word.fits c.control.ensures.ok c.control.ensures.control)
