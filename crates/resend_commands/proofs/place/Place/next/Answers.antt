use Rattle.std.proofs.Common.{◌≡◌, ◌+◌, ◌≤◌, get_or, arith}
use Rattle.resend_events.specs.Events.{times}
use Rattle.resend_events.specs.declared.event.Event.TheVariants.{Send}
use Rattle.resend_commands.proofs.Passing.{row_passed, some_passed}
use Rattle.resend_commands.proofs.place.Place.next.Goals as goal

pub returns-then-self-count-clause-events : goal.returns-then-self-count-clause-events
returns-then-self-count-clause-events c =
    let p = c.args.self.now in
    let less = c.if-self-count.true in
    some_passed c.args.rows.now p.row p.done c.requires.more c.min-count.result (omega (arith, less))

pub returns-clause-events : goal.returns-clause-events
returns-clause-events c =
    let p = c.args.self.now in
    let count = (get_or c.args.rows.now p.row (times Send 0)).count in
    let within : p.done ≤ count = c.requires.among.done in
    let least = c.min-count.ensures in
    let last = c.if-self-count.false in
    let all : p.done + c.min-count.result ≡ count = omega (arith, within, least, last) in
    row_passed c.args.rows.now p.row p.done c.requires.more c.min-count.result all
