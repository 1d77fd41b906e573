use Rattle.std.proofs.Common.{◌<◌, length, ap, sym, ◌∙◌, arith, false}
use Rattle.std.proofs.lemmas.List.{get_or_default}
use Rattle.stream_model.specs.Calendar.{on_by_latest}
use Rattle.calendar.proofs.States.{told_of_all}
use Rattle.calendar.proofs.incoming.CalendarIn.is_on.Goals as goal

pub returns-clause-on : goal.returns-clause-on
returns-clause-on c entries rows t s all =
    let below : c.args.channel < length c.args.self.now.on.items = omega (arith, s.wide, c.ranges.channel.fits) in
    c.index.ensures ∙ get_or_default c.args.self.now.on.items c.args.channel c.index.result.now false below ∙ s.states c.args.channel c.ranges.channel.fits ∙ ap on_by_latest (sym (told_of_all entries rows c.args.channel t all))
