use Rattle.std.proofs.Common.{◌≡◌, ◌+◌, ◌≤◌, length, ap, sym, ◌∙◌, arith, rules}
use Rattle.calendar.proofs.Turn.{more, again, first_small}
use Rattle.calendar.proofs.outgoing.CalendarOut.next.Goals as goal
use Rattle.calendar.proofs.outgoing.CalendarOut.next.Goals.{then-after-len, else-after-len}

pub overflow_add-after : goal.overflow_add-after
overflow_add-after c =
    let s = c.requires.stands.3 in
    let low : 1 ≤ length c.requires.stands.0 = s.low in
    omega (arith, first_small c.requires.stands.0 c.requires.stands.2 low, s.first, ap length s.shown, c.args.self.now.entries.small)

pub returns-clause-stands : goal.returns-clause-stands
returns-clause-stands c entries local j s =
    let low : 1 ≤ length entries = s.low in
    elim c.if-after-len.branch [
      | then-after-len w ↦ record { shown = s.shown; low = s.low; wide = s.wide; first = w.self-is ∙ ap (λ n. n + 16) s.first ∙ sym (more entries j low (omega (arith, s.first, ap length s.shown, w.if-after-len.true))); states = s.states; same = s.same }
      | else-after-len w ↦ record { shown = s.shown; low = s.low; wide = s.wide; first = w.self-is ∙ sym (again entries j low (omega (arith, s.first, ap length s.shown, w.if-after-len.false))); states = s.states; same = s.same }
    ]

pub returns-clause-reset : goal.returns-clause-reset
returns-clause-reset c = search rules
